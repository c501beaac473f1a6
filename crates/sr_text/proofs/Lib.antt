pub mod Decoding
pub mod Digits
pub mod Encoding
pub mod IndexKeys
pub mod Sequences
pub mod Texts
