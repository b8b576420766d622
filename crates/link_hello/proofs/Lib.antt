pub mod Silences
pub mod Offers
