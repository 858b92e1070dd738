pub mod Truths
pub mod WindowLaws
pub mod WindowRows
pub mod ContentLaws
pub mod InstantLaws
pub mod NeededLaws
