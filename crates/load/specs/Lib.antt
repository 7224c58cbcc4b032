pub mod Loaded
pub mod Loads
pub mod fields
pub mod numerals
pub mod recordwords
pub mod one_record
pub mod recordlist
