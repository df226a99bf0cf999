pub mod Parts
pub mod Fills
