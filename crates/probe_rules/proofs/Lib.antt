pub mod Integers
pub mod Found
pub mod Refusals
pub mod Closed
pub mod Answers
pub mod Records
pub mod Samples
pub mod Theorems
