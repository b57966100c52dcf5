pub mod Loader
pub mod Reply
