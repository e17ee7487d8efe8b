pub mod Controller
pub mod Unique
