pub mod Packets
pub mod Shown
