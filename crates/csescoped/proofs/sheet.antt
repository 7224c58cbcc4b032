pub mod Steps
pub mod ByCalls
