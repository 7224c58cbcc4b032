pub mod TreeText
pub mod BindingLaws
pub mod StatementLaws
