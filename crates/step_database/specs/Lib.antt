pub mod Restored
pub mod Standing
pub mod Databases
pub mod CommitFaults
