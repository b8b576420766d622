pub mod DeltaStates
pub mod Joining
pub mod Standing
pub mod Frames
