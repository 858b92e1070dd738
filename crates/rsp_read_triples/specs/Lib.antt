-- Words of the way
pub mod Within
