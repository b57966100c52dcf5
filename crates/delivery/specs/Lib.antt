pub mod Check
pub mod Sending
pub mod Demand
pub mod Beside
pub mod Meaning
pub mod Accepted
pub mod OneRegion
