pub mod tokens
pub mod words
pub mod bits
