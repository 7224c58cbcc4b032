pub mod Rules
pub mod Dividing
pub mod Places
