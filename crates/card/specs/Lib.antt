pub mod Call
pub mod Mains
