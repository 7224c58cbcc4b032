pub mod RowLaws
pub mod LineLaws
pub mod Whole
pub mod Flat
pub mod Room
pub mod Refusing
pub mod Progress
