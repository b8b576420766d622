pub mod Ends
pub mod Ledgers
pub mod Limits
pub mod Tasks
