pub mod Later
pub mod First
pub mod Used
pub mod Rest
pub mod Fits
pub mod InForce
pub mod Theorems
