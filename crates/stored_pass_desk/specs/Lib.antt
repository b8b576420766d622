pub mod KeepingPorts
pub mod StoredPassDesks
