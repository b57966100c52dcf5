pub mod Answers
pub mod Power
