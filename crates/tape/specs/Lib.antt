pub mod Text
pub mod Tape
pub mod Kinds
pub mod Printout
pub mod Pieces
pub mod Turning
pub mod Runs
pub mod Firm
