pub mod Overlay
pub mod Parts
pub mod Reads
pub mod Whole
