pub mod Blocks
pub mod Logs
