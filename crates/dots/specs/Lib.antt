pub mod CountedCalls
pub mod DotSets
pub mod Orders
pub mod Values
pub mod WithinLimits
