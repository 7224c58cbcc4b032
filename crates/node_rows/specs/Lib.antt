pub mod kinds
pub mod fields
pub mod rows
pub mod records
pub mod unfolded
