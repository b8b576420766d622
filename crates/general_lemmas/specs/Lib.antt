pub mod Fronts
pub mod Joins
pub mod SetItems
pub mod SortedEntries
