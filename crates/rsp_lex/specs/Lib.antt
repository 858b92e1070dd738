-- Definitions
pub mod Patterns
pub mod Forms
pub mod Tokens
pub mod Results
-- Words of the way
pub mod Gaps
pub mod Quoted
pub mod Names
pub mod Numbers
pub mod Symbols
pub mod Kinds
pub mod Reach
