pub mod Start
pub mod Blocks
