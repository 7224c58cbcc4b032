pub mod answer
pub mod positions
pub mod switches
