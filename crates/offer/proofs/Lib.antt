pub mod FirstOffers
pub mod OfferOrder
