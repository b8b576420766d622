pub mod EntryLemmas
pub mod JoinedRows
pub mod FewRows
