pub mod Bytes
pub mod Refusals
pub mod Contents
pub mod Blocks
pub mod Verdict
pub mod Encode
pub mod Claims
