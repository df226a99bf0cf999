pub mod Activated
