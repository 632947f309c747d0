pub mod Moments
pub mod Runs
