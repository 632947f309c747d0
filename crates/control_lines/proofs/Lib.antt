pub mod Lines
pub mod Slots
pub mod Unasked
mod PageSteps
mod Dumping
mod Rows
