pub mod InPlace
pub mod Ticking
