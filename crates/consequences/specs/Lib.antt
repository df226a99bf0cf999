pub mod in_flight
pub mod order
pub mod policies
