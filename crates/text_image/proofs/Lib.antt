pub mod Parts
pub mod Sounds
pub mod Pictures
pub mod Walks
