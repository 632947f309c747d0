pub mod Rows
pub mod Lists
pub mod Calls
pub mod Saying
pub mod Following
pub mod Same
pub mod Few
