pub mod Parts
pub mod Quantities
pub mod Windows
pub mod Event
pub mod Legal
