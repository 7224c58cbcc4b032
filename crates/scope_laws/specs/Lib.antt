pub mod told
pub mod measured
