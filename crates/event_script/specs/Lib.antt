pub mod Comments
pub mod Lines
pub mod Shown
