pub mod Actions
pub mod Checks
pub mod FieldValues
pub mod Logins
pub mod Replies
pub mod Responses
pub mod Text
pub mod Views
