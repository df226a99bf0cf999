pub mod Written
pub mod Samples
