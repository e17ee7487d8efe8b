pub mod Tally
pub mod Unique
