pub mod Switches
pub mod Groups
pub mod Columns
