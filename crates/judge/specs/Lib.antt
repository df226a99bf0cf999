pub mod Follow
pub mod Blocks
