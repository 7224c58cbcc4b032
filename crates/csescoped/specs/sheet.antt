pub mod Said
pub mod ScopedSheet
pub mod Prints
