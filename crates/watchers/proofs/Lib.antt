mod Addresses
mod Bounded
mod Rows
mod Same
mod Tallies
mod Readings
