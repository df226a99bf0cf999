pub mod spans
