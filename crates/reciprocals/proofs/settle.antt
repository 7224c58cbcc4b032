pub mod Missing
pub mod Stepping
pub mod Settling
