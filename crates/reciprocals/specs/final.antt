pub mod Final
pub mod Entries
pub mod Ready
