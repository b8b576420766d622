pub mod Frames
pub mod Items
pub mod Losses
pub mod ReceivedItems
pub mod Results
pub mod SentLinks
pub mod Spreads
pub mod Turns
