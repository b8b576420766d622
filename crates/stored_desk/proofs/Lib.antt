pub mod Answering
pub mod Appending
pub mod Marking
pub mod Porting
pub mod Prefixes
pub mod Recording
pub mod Saving
