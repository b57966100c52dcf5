pub mod Framing
pub mod Pages
