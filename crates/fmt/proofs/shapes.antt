pub mod PlaceLaws
pub mod OperandLaws
pub mod NodeLaws
pub mod LoopLaws
