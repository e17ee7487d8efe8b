pub mod Fed
pub mod Joined
pub mod Unique
