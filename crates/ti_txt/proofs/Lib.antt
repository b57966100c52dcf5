pub mod Compare
pub mod Outcomes
pub mod Means
