pub mod Utc
pub mod Plain
pub mod Objects
pub mod Lines
