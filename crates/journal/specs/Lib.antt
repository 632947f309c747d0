pub mod Frames
pub mod Records
pub mod Laws
pub mod Generations
pub mod Gathering
pub mod Chains
