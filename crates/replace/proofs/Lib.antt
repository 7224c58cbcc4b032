pub mod Writing
pub mod Deciding
pub mod Rewriting
pub mod Ends
pub mod closed
pub mod replacing
pub mod Faults
