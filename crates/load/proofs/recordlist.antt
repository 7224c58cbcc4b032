pub mod Limits
pub mod Stepping
pub mod Reading
