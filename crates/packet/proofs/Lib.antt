pub mod Written
pub mod Judged
pub mod Commands
