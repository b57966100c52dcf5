pub mod Stretches
pub mod Writing
