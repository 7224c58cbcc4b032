pub mod shapes
pub mod lengths
