pub mod cse
pub mod answer
pub mod positions
pub mod switches
pub mod outernames
