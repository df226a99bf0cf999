pub mod Zeros
pub mod Every
pub mod Parts
pub mod Words
