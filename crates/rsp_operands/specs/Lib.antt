-- Words of the way:
pub mod Operands
pub mod Keys
