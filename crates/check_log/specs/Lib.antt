pub mod Fills
pub mod Reads
pub mod Claims
