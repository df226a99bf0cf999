pub mod Heads
pub mod Program
pub mod Over
pub mod Theorems
