pub mod Targets
pub mod Exports
pub mod Faults
pub mod Early
pub mod Parts
pub mod Kinds
