pub mod Kinds
pub mod Laws
pub mod Numbers
pub mod Parts
pub mod Units
pub mod Refusals
