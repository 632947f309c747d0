pub mod UdpCall
pub mod UdpLines
pub mod UdpHearing
pub mod UdpServing
pub mod UdpEnds
pub mod UdpRunning
