pub mod Numbers
pub mod Summaries
pub mod Views
