pub mod Numbers
pub mod Rounding
pub mod Totals
pub mod Left
pub mod Profiles
pub mod Tables
