pub mod Codes
pub mod Framing
pub mod Recording
pub mod Refinding
pub mod Filed
pub mod Gathering
pub mod Chaining
