pub mod Worlds
pub mod Rows
pub mod Exact
pub mod Comes
pub mod Kept
pub mod Advances
pub mod Begins
