pub mod Answers
pub mod Size
