pub mod Ends
pub mod LoadEnds
pub mod ExtractEnds
pub mod PrintEnds
pub mod TextEnds
pub mod DepthEnds
pub mod RewriteEnds
pub mod ReplaceEnds
