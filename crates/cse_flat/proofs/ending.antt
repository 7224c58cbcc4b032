pub mod Ends
pub mod Entering
pub mod Linking
