pub mod Told
pub mod Terms
pub mod Halts
pub mod Accounts
pub mod Noted
pub mod Changed
pub mod Reloaded
