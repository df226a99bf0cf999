pub mod Lasting
pub mod Passing
