pub mod Language
pub mod Stages
pub mod Worlds
pub mod Stack
pub mod Going
pub mod Running
