pub mod Commas
pub mod Ends
pub mod Copies
