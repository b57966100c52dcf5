pub mod Walks
pub mod Tokens
