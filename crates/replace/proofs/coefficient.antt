pub mod Whole
pub mod Exactness
pub mod Wholeness
pub mod Codes
pub mod Constants
