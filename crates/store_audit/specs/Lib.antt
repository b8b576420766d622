pub mod StoreRows
pub mod Walks
pub mod RowCauses
pub mod Stores
pub mod Headings
pub mod Audits
