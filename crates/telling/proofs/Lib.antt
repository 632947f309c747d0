pub mod Runs
pub mod LineReads
pub mod Tellings
