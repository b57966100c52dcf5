pub mod Plan
pub mod Walk
pub mod Meaning
