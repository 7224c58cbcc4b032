pub mod Places
pub mod Pieces
pub mod Writers
