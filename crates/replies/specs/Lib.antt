pub mod Numbers
pub mod Status
pub mod Answers
