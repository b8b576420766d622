pub mod Counting
pub mod Filters
pub mod Fronts
pub mod ItemOrder
pub mod Membership
pub mod SortedEntries
pub mod TruthTables
pub mod MapEntries
