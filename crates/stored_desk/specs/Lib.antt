pub mod Histories
pub mod Marks
pub mod Recorded
pub mod Failing
pub mod Saved
pub mod Ports
pub mod StoredPorts
