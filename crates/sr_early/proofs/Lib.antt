pub mod Declared
pub mod Judged
