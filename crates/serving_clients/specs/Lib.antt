pub mod Answering
pub mod Clients
pub mod PlaceCounts
pub mod ReadWaits
pub mod ServedClients
