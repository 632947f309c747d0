pub mod Tournament
pub mod Timers
pub mod Machine
pub mod Places
pub mod Rings
pub mod Stored
pub mod Runs
