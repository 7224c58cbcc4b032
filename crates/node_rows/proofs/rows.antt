pub mod Sums
pub mod RowTrees
pub mod Filling
pub mod RowLaws
pub mod TableLaws
pub mod Shaped
pub mod Accepted
