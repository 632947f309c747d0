pub mod LastLine
pub mod Input
