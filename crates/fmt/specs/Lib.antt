pub mod emit
pub mod symbols
pub mod shapes
pub mod checked
pub mod writer
pub mod lengths
pub mod order
