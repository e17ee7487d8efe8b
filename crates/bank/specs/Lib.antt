pub mod Bank
pub mod Places
pub mod Words
