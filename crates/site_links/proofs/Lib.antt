pub mod Relayed
pub mod LinkedSites
