pub mod Filled
pub mod OfList
pub mod OfRecord
