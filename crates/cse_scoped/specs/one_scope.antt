pub mod Answers
pub mod Armed
pub mod Frame
pub mod Parts
pub mod Scoped
pub mod Walked
