pub mod Lines
pub mod State
pub mod Heard
pub mod Ranges
pub mod Plans
pub mod Refused
