pub mod DoneDeeds
pub mod GuardedSteps
pub mod NewPasses
pub mod PortRuns
pub mod PossibleDeeds
