pub mod Fitting
pub mod Unions
pub mod Filters
pub mod Mapped
pub mod Crossed
pub mod Extended
pub mod Learning
