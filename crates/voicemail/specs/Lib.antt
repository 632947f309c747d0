pub mod Kept
pub mod Notices
pub mod Served
