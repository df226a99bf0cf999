pub mod Xor
pub mod Lanes
pub mod House
pub mod Bytes
pub mod Words
pub mod Arms
pub mod Places
