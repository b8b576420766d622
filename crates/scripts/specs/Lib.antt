pub mod Answers
pub mod Script
pub mod LineSteps
