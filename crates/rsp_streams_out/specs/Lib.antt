-- Definitions: what a reader must believe
pub mod Rows
pub mod Streams
pub mod Reports
pub mod Json
-- Words of the way: they link code to definitions, and need no belief
pub mod JsonParts
pub mod RowOrder
pub mod Turning
