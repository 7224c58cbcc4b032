pub mod Steps
pub mod sheetlines
