pub mod Forms
pub mod Fields
pub mod Rows
pub mod Books
pub mod Messages
pub mod Changes
pub mod Events
