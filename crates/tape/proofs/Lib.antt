pub mod Writing
pub mod Playing
pub mod Turns
pub mod Advancing
pub mod Printed
pub mod MovesOn
pub mod RunsHold
pub mod Firm
