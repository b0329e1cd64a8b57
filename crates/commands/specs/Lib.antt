pub mod Commands
pub mod Shapes
pub mod StatusTable
