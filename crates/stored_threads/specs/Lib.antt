pub mod ResumedSites
pub mod StoredEnds
