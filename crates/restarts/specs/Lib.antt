pub mod Restarts
pub mod Ahead
pub mod Withdrawn
pub mod Laws
pub mod Living
