pub mod Cards
pub mod LaunchFaults
pub mod LinkedJournals
pub mod Tasks
