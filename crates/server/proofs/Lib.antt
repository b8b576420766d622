pub mod FrameLemmas
pub mod ListeningLemmas
pub mod PlaceLemmas
pub mod ServedSites
pub mod ServedStores
