pub mod delays
pub mod spans
