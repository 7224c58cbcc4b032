pub mod RecordBytes
pub mod ShapeLaws
pub mod ShortSheets
