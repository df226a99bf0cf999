pub mod Delays
pub mod Answer
pub mod Claims
pub mod Samples
