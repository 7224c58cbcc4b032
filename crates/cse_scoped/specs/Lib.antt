pub mod Kept
pub mod one_scope
