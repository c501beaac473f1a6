pub mod Steps
pub mod OneSorting
pub mod Closings
pub mod Aheads
pub mod Turns
