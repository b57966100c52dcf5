pub mod Rules
pub mod Picture
pub mod Walk
