pub mod Cases
pub mod Rounding
pub mod Totals
pub mod Left
pub mod Profiles
pub mod Tables
pub mod log
pub mod cut
