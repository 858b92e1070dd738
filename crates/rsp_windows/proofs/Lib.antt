pub mod Closings
pub mod Divisors
pub mod Rows
pub mod SharedClosings
