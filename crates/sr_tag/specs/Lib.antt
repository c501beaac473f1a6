pub mod Path
pub mod Reference
pub mod Steps
