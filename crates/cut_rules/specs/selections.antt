pub mod Selections
pub mod Claims
pub mod Samples
