pub mod Flash
pub mod Stretches
