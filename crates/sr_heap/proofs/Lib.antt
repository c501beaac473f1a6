pub mod Tables
pub mod Inside
pub mod Objects
pub mod Lives
pub mod Tested
pub mod EnvironmentRecords
mod Outward
pub mod Ways
pub mod Methods
