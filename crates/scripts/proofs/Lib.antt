pub mod EachText
pub mod Happening
pub mod OneText
pub mod Replying
pub mod Running
pub mod Taking
