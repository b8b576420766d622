pub mod KeepingCalls
pub mod PortCalls
