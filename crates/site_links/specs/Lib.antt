pub mod Relaying
pub mod Links
pub mod Linking
