pub mod OffRefuses
pub mod Needs
pub mod Leads
pub mod Over
pub mod Keeps
pub mod Staying
pub mod Warnings
