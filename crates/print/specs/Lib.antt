pub mod Printing
pub mod answers
pub mod told
pub mod answerwriter
pub mod lines
