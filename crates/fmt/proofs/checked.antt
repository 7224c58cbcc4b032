pub mod WordLaws
pub mod RunLaws
pub mod Answers
pub mod Examples
