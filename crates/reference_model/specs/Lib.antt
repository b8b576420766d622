pub mod NextDots
pub mod Plain
pub mod Sites
pub mod Views
