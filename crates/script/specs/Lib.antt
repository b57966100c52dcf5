pub mod Script
pub mod Page
