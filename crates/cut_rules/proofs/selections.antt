pub mod Words
pub mod Passes
pub mod Chosen
pub mod Results
pub mod Samples
pub mod Theorems
