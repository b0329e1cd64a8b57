pub mod InBytes
pub mod Refusals
pub mod Replies
pub mod HeldByC
