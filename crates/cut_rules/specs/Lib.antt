pub mod Cut
pub mod Roomy
pub mod Claims
pub mod selections
