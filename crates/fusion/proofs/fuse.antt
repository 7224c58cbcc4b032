pub mod Numbers
pub mod Stepping
pub mod Fusing
