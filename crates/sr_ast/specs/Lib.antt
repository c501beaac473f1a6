pub mod Script
pub mod Layer
