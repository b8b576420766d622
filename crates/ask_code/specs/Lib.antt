pub mod Codes
pub mod Values
pub mod Asks
pub mod Steps
