pub mod Probes
pub mod Closed
pub mod Claims
pub mod Samples
