pub mod Told
pub mod Keeping
pub mod Laws
pub mod Refusing
