pub mod Words
pub mod Among
pub mod Listed
pub mod Giving
pub mod Told
