pub mod Text
pub mod Samples
pub mod Bytes
pub mod Lines
pub mod Counts
