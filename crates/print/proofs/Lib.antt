pub mod PrintLaws
pub mod told
