pub mod Passed
pub mod Told
pub mod OnOneSet
pub mod NamedCommands
pub mod WholeCard
pub mod Viewed
pub mod EventsAndTicks
pub mod Bodies
