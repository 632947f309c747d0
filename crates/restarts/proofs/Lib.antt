pub mod Parts
pub mod Unanswered
pub mod Leaps
