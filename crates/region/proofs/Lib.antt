pub mod Sames
pub mod Sizes
