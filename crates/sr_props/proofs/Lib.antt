pub mod Added
pub mod Listed
pub mod Sorted
