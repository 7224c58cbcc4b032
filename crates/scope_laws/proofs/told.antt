mod Examples
pub mod Holding
pub mod Groups
pub mod Walking
pub mod Matches
pub mod Statements
pub mod Ordering
pub mod Fusing
pub mod Proper
pub mod Body
pub mod Whole
pub mod Scoped
