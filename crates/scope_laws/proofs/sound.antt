pub mod Held
pub mod Columns
pub mod Rounds
pub mod Sums
pub mod Counting
pub mod Sizes
pub mod Bounds
