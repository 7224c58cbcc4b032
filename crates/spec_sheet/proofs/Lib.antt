pub mod Numerals
pub mod Inner
pub mod Words
pub mod Splitting
pub mod Loads
pub mod Loaded
pub mod Loadable
pub mod SheetPasses
