pub mod Choice
pub mod Lists
pub mod Octets
pub mod Numbers
pub mod Pages
pub mod Words
