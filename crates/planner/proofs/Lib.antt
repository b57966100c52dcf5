pub mod Puts
pub mod Walks
pub mod Plans
