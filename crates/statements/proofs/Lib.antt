pub mod Held
pub mod Groups
pub mod Taking
pub mod Keys
pub mod Marking
pub mod Writing
