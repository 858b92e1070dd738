-- Definitions:
pub mod Datatypes
pub mod Forms
pub mod Numerals
pub mod BooleanValues
pub mod Strings
pub mod Formulas
pub mod Errors
pub mod Booleans
pub mod Comparing
pub mod Functions
pub mod Values
pub mod Order
pub mod Aggregates
pub mod Groups
-- Words of the way:
pub mod CodeTypes
pub mod Meanings
