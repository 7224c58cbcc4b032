pub mod Replacing
pub mod Searching
pub mod Turning
pub mod Chaining
pub mod Examples
