pub mod Pass
pub mod All
