pub mod Needs
pub mod Turns
pub mod reads
pub mod treelist
pub mod links
