pub mod Lists
pub mod Differs
pub mod Same
pub mod Change
pub mod Marks
pub mod OldLimits
pub mod Theorems
