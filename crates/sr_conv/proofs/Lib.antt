pub mod Equality
pub mod Cuts
