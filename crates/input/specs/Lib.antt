pub mod Input
pub mod Results
pub mod Promises
