pub mod Sameness
pub mod Keys
