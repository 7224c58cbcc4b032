pub mod Write
pub mod Unfold
pub mod Chain
