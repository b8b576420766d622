pub mod Ears
pub mod PassDesks
pub mod RingingDesks
