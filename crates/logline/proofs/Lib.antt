pub mod Digits
pub mod Labels
pub mod Bytes
pub mod Keys
pub mod Room
