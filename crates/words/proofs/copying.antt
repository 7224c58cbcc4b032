pub mod Copying
pub mod Putting
