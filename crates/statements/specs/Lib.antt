pub mod Prepared
pub mod Scopes
pub mod holding
