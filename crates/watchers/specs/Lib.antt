pub mod Notifies
pub mod Pages
pub mod Rows
pub mod Tallies
pub mod Readings
