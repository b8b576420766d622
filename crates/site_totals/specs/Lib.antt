pub mod TotalLists
pub mod Tally
pub mod Raising
