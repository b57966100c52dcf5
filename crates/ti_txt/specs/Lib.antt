pub mod Answers
pub mod Compared
pub mod Meaning
