pub mod Input
pub mod Kinds
pub mod Hearing
pub mod Taken
