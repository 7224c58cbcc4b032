pub mod Flat
pub mod FlatSheet
pub mod sheetlines
