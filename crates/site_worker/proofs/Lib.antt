pub mod Gatings
pub mod Workings
pub mod PlaceLemmas
pub mod Ended
