pub mod Plain
pub mod Computed
pub mod Conversions
pub mod Comparison
pub mod Operators
pub mod Reports
pub mod Answers
pub mod Steps
