pub mod Filled
pub mod Claims
