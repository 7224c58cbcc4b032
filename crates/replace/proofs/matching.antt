pub mod Examples
pub mod Runs
pub mod Places
pub mod Removing
