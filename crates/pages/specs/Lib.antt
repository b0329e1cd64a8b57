pub mod Capacities
pub mod Bodies
pub mod Features
pub mod Latency
pub mod Aggregate
pub mod Identify
pub mod Asking
