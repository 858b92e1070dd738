pub mod Along
pub mod Popped
pub mod Current
pub mod StillSet
pub mod Begun
