pub mod Firsts
pub mod Lists
pub mod Openers
pub mod ReadTokens
