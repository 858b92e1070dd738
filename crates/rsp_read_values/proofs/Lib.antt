pub mod RowLaws
pub mod NewNames
