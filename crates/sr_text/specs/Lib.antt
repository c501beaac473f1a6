pub mod Encoding
pub mod Laws
pub mod Numerals
pub mod Search
pub mod Text
pub mod Utf8
