-- Words of the way: they link code to definitions, and need no belief
pub mod Possible
pub mod Binding
pub mod Sets
