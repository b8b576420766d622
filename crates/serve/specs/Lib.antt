pub mod Desks
pub mod Faults
pub mod Replicas
pub mod Sessions
pub mod Steps
