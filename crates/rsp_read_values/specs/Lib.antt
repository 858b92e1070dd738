-- Words of the way
pub mod Rows
