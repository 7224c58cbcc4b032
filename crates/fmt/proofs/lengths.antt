pub mod Leaves
pub mod Operations
pub mod Whole
pub mod Callers
