pub mod Labels
pub mod LogLine
pub mod Promises
