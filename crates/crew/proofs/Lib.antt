pub mod Dealing
pub mod Zipped
pub mod SeatRows
pub mod Starting
mod Closing
mod Sending
pub mod Reporting
pub mod Keeping
pub mod OnePort
pub mod AtHome
pub mod GoingOn
pub mod Joined
pub mod Elsewhere
pub mod Others
mod Grown
pub mod Sent
pub mod Folds
mod Loops
mod Halting
pub mod Counted
pub mod OneSender
pub mod OneHome
