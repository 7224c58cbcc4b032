pub mod Starting
pub mod Leaving
pub mod Ending
pub mod Unfolding
pub mod Rounding
pub mod Flat
pub mod Listing
pub mod Finishing
