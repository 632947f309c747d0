pub mod Ranges
pub mod Said
pub mod Events
pub mod States
pub mod Expiries
pub mod WrittenTexts
pub mod Tokens
