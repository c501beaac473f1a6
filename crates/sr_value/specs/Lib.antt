pub mod Equality
pub mod Made
pub mod Plain
pub mod Live
pub mod Exact
