pub mod Leading
pub mod Places
