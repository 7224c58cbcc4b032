pub mod Finding
pub mod Marking
pub mod Arms
