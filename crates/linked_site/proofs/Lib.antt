pub mod OnlyEnds
pub mod TurnCalls
