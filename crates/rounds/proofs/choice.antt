pub mod Passing
pub mod Leaders
pub mod Giving
pub mod Forms
pub mod Definition
