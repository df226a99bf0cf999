pub mod Refusals
pub mod Alike
pub mod Theorems
