pub mod Item
pub mod Reading
