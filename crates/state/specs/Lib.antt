pub mod Ready
pub mod DecisionBy
