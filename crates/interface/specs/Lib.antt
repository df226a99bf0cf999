pub mod Left
pub mod Claims
