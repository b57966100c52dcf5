pub mod Layout
pub mod Rule
pub mod Reading
