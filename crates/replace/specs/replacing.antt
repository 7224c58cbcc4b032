pub mod Replacing
pub mod Deciding
