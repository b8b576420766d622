pub mod Offers
pub mod GoingOver
