pub mod ChangeOver
pub mod Claims
