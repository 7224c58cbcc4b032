pub mod Ends
pub mod refined
