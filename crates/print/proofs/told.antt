pub mod PieceLaws
pub mod PlaceLaws
pub mod PartLaws
pub mod LoopLaws
pub mod NameLoop
pub mod ArmLoops
pub mod LineLoops
pub mod MarkLaws
