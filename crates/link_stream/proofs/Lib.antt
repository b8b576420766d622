pub mod Causes
pub mod Giving
pub mod Taken
