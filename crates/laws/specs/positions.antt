pub mod Shown
pub mod Names
pub mod Places
pub mod Rounds
