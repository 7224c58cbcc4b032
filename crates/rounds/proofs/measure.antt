pub mod Pairs
pub mod WordFacts
pub mod Walking
pub mod Together
pub mod Filling
pub mod Places
