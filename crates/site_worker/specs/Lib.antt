pub mod Bells
pub mod Gates
pub mod Working
pub mod Runs
pub mod WorkTasks
