pub mod Desk
pub mod Words
pub mod AtWords
