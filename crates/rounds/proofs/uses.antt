pub mod Runs
pub mod Marking
pub mod Giving
