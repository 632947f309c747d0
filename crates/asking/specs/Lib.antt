pub mod Telling
pub mod Input
