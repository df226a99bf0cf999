pub mod Settled
pub mod Counters
