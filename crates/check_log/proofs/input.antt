pub mod Given
pub mod Ends
