pub mod Listed
pub mod Early
pub mod Stacked
pub mod Passed
