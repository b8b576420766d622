pub mod EachDelta
pub mod EmptySets
pub mod EmptyTotals
pub mod Merging
pub mod Sameness
pub mod ShownDeltas
pub mod StandingDeltas
