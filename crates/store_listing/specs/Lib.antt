pub mod Texts
pub mod Lines
pub mod Rows
pub mod Causes
pub mod Listings
