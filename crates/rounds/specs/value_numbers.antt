pub mod Classes
pub mod Walks
pub mod Tables
pub mod Answers
