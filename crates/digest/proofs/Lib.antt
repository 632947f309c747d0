pub mod Allowed
pub mod AuthParams
pub mod Differences
pub mod Exclusive
pub mod NonceTexts
pub mod Sayings
pub mod Texts
pub mod Unescapes
