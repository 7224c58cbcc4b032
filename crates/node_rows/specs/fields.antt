pub mod Constant
pub mod Below
pub mod Tests
