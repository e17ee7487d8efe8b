pub mod Log
pub mod Results
pub mod Promises
pub mod Unique
pub mod Cut
pub mod Counts
