pub mod Cutting
pub mod TriedParts
