pub mod passing
pub mod Marked
pub mod MostSwitches
pub mod Examples
pub mod Whole
pub mod Operation
pub mod TurnedDown
pub mod Returned
