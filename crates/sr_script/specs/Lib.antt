pub mod Names
pub mod Form
pub mod Parts
pub mod Table
pub mod Refusals
pub mod Built
