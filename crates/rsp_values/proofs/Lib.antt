pub mod Arguments
pub mod Once
pub mod OtherLengths
pub mod Connectives
pub mod MergedCells
