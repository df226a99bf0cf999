pub mod Results
pub mod Runs
pub mod Near
