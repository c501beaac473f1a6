pub mod Plain
pub mod Live
pub mod Errors
pub mod Reports
