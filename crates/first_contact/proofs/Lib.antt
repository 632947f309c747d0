pub mod Parts
pub mod Places
pub mod Going
pub mod Firsts
pub mod Histories
pub mod Orders
pub mod WorkedRuns
