pub mod Plain
pub mod Found
pub mod Live
pub mod Records
