pub mod SoundSchemas
pub mod CleanMemory
pub mod Refused
pub mod Recovered
