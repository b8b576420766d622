pub mod StepRows
pub mod Stands
pub mod Kept
pub mod Found
pub mod Crossing
