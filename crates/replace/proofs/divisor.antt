pub mod Dividing
pub mod Searching
pub mod Turning
pub mod Chaining
pub mod Examples
