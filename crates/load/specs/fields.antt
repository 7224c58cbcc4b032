pub mod Comma
pub mod Answers
pub mod End
pub mod Copy
