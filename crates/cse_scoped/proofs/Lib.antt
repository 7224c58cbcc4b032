pub mod Ends
pub mod Rows
