pub use Rattle.dots.specs.Values
pub use Rattle.dots.specs.Orders
pub use Rattle.dots.specs.DotSets
pub mod Contexts
pub mod RunLists
pub mod ListedRuns
