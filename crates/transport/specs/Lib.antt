pub mod Devices
pub mod Wires
pub mod Ears
pub mod Sockets
