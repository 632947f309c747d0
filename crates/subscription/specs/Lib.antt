pub mod State
pub mod Table
pub mod Written
pub mod History
