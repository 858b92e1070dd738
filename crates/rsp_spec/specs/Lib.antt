-- Definitions: what a reader must believe
pub mod Limits
pub mod Windows
pub mod Faults
pub mod Written
pub mod Instants
-- Words of the way: they link the code to the definitions
pub mod Relations
