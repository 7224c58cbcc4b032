pub mod There
pub mod Quotient
pub mod Reading
pub mod Made
pub mod Whole
pub mod Unmoved
pub mod Binding
