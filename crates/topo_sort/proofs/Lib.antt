pub mod Stacks
pub mod Left
pub mod Going
pub mod Loops
pub mod Whole
pub mod Sorted
pub mod Examples
