pub mod Keys
pub mod Counts
