pub mod Changing
pub mod Held
pub mod Linear
pub mod Merging
pub mod SameLists
pub mod Shown
pub mod Signs
pub mod Sums
pub mod Whole
mod WorkedRows
pub mod Counting
pub mod Columns
pub mod Distincts
pub mod Between
pub mod KeySets
mod GivenRows
