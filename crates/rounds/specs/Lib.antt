pub mod Answers
pub mod Rounds
pub mod measure
pub mod uses
pub mod value_numbers
pub mod choice
pub mod kept
