pub mod Extracting
pub mod Lending
pub mod Ending
pub mod kept
