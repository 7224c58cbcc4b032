pub mod Comparing
pub mod OrderLaws
pub mod Beginnings
pub mod Ordering
pub mod Lengths
