pub mod Copies
pub mod CopyFaults
