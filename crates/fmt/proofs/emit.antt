pub mod WriteLaws
pub mod Fitting
pub mod TextLaws
