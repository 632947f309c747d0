pub mod UdpPrinted
pub mod UdpClosed
pub mod UdpStarted
pub mod UdpServed
pub mod UdpEnded
