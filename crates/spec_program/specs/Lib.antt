pub mod Print
pub mod Calls
pub mod Program
