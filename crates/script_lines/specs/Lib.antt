pub mod Counts
pub mod ScriptLines
pub mod Views
