pub mod Steps
pub mod Tables
pub mod Outcomes
pub mod Runs
pub mod Sends
