pub mod Line
pub mod Refusal
