pub mod Fields
pub mod ValuesAgain
pub mod BytesAgain
pub mod Exactly
