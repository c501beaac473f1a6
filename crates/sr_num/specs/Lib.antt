pub mod Integer
pub mod Arithmetic
pub mod Bits
pub mod Power
pub mod StringToNumber
pub mod DecimalGrammar
pub mod TextGrammar
