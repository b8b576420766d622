pub mod CodeLaws
pub mod ValueLaws
pub mod AskLaws
pub mod AskLengths
pub mod TotalCodes
pub mod TotalAsks
