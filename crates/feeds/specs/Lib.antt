pub mod Emitted
pub mod Heard
pub mod Fed
pub mod Laws
pub mod Waiting
