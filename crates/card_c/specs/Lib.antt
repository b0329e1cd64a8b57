pub mod Entries
pub mod Demands
pub mod HeldByC
