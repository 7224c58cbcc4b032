pub mod sound
pub mod needs
pub mod told
pub mod agree
pub mod measured
pub mod call
