pub mod Limits
pub mod ChangeOver
pub mod Answers
pub mod Lists
pub mod Theorems
