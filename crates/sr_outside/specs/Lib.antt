pub mod Counts
pub mod Loading
pub mod Writing
pub mod Fakes
