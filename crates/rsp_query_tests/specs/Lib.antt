-- Words of the way: they link code to definitions, and need no belief
pub mod Followed
