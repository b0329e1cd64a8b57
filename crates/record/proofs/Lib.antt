pub mod Settling
pub mod EventBits
