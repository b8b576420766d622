pub mod AskLemmas
pub mod BlockLemmas
pub mod KnowingLemmas
pub mod TextLemmas
