pub mod Items
pub mod Tagged
pub mod Receiving
pub mod Sending
pub mod Sequences
