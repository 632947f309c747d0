pub mod Held
pub mod Parts
pub mod OneChange
pub mod Runs
mod Examples
