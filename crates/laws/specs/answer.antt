pub mod Fitting
pub mod First
pub mod Fronts
pub mod Seen
