pub mod Switch
pub mod Taking
pub mod Gathering
pub mod Front
pub mod Ends
