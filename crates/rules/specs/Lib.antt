pub mod Changes
pub mod Need
pub mod Door
pub mod Rules
