pub mod Back
mod Told
