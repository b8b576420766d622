pub mod AskSteps
pub mod Coming
pub mod Serving
pub mod Taking
pub mod TextSteps
pub mod Working
