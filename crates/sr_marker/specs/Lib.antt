pub mod Tokens
pub mod Places
pub mod Refusals
