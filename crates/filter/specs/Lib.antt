pub mod raise
pub mod turn
