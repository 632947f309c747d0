pub mod Values
pub mod Written
pub mod Headers
pub mod HeaderReading
pub mod HeaderViews
pub mod Codes
pub mod Covering
pub mod Laws
