pub mod Answers
pub mod Needs
