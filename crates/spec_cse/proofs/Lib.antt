pub mod AnswersRefused
pub mod RowsRefused
pub mod Depths
pub mod Misreadings
