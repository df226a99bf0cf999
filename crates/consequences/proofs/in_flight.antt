pub mod Cells
pub mod Counts
pub mod Most
pub mod Dones
pub mod Theorems
