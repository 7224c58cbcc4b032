pub mod sheet
