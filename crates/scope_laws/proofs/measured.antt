pub mod Scoped
pub mod Measuring
