pub mod Lists
pub mod Given
pub mod Advance
pub mod Deeds
pub mod Playing
pub mod Ends
