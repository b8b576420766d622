pub mod Refusals
pub mod Cards
pub mod Codes
pub mod Hellos
