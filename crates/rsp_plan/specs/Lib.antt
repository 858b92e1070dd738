-- Words of the way: they link code to definitions, and need no belief
pub mod Scanning
pub mod Operating
pub mod Kinds
