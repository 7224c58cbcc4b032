pub mod Rewriting
pub mod Runs
pub mod Requests
pub mod Scanning
pub mod Ends
pub mod Chains
