pub mod Places
pub mod Within
pub mod Marked
pub mod Counting
pub mod Sizes
pub mod Choosing
pub mod Sorting
pub mod Giving
