pub mod Tests
pub mod Lengths
pub mod Memory
pub mod Words
pub mod Place
