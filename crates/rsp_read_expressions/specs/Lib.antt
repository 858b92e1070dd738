-- Words of the way
pub mod Leaves
pub mod Levels
pub mod Lists
