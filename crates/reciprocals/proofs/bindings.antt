pub mod Parts
pub mod There
