pub mod Sound
pub mod Agree
