pub mod Telling
pub mod Emitting
pub mod Pieces
pub mod SendingHome
pub mod Fed
pub mod SentOut
