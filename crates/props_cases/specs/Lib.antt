pub mod Exact
pub mod Ranks
