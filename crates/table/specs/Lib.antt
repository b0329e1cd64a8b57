pub mod Layout
pub mod Card
pub mod Table
pub mod LegalWords
