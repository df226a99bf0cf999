pub mod Plan
pub mod Served
pub mod Costs
