pub mod DotSteps
pub mod FieldSteps
pub mod LimitSteps
pub mod RowSteps
pub mod RunSteps
pub mod SetSteps
pub mod Steps
