pub mod Page
pub mod Runs
pub mod Call
pub mod Hearing
pub mod Working
pub mod Gathering
pub mod Crew
pub mod Laws
