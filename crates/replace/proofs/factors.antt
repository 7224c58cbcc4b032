pub mod WordRuns
pub mod PlaceLaws
pub mod Flattening
pub mod Answering
pub mod Products
pub mod Examples
