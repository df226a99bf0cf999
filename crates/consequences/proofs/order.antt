pub mod Steps
pub mod Group
pub mod Filters
pub mod Calls
pub mod Program
pub mod Theorems
