pub mod Words
pub mod WrittenBack
