pub mod Chain
pub mod Unit
pub mod Taken
pub mod Steps
pub mod Spine
pub mod Products
pub mod Equal
