pub mod Changes
pub mod Errors
pub mod Lines
pub mod Page
pub mod Script
pub mod Reading
pub mod Views
