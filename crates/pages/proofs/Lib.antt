pub mod Back
pub mod Listed
pub mod Entries
pub mod Asking
