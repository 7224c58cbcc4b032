pub mod Answers
pub mod Extraction
pub mod ending
pub mod refined
pub mod trees
