pub mod Names
pub mod Scopes
pub mod Strictness
pub mod Table
