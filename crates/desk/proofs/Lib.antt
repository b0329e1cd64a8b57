pub mod Bits
pub mod LegalDesks
pub mod AtDesk
pub mod Sending
