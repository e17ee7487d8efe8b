pub mod Tables
pub mod Cycles
pub mod Faults
