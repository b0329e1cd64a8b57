pub mod OnSet
pub mod Views
pub mod Ticks
pub mod SetUp
