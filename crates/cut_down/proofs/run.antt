pub mod Begin
