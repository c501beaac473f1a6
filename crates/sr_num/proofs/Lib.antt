pub mod Powers
pub mod Digits
pub mod Decimals
pub mod Literals
