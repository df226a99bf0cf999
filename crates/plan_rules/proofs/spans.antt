pub mod Most
pub mod Free
pub mod Windows
pub mod Answer
pub mod Samples
pub mod Theorems
