pub mod Places
pub mod Members
pub mod Covers
pub mod Views
pub mod Merging
pub mod Uniting
pub mod Unions
pub mod FewRuns
