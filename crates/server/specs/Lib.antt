pub mod EndingFaults
pub mod Listening
pub mod LaunchFaults
pub mod PeerLinks
pub mod ServedJournals
pub mod ServedStores
pub mod Tasks
