pub mod Syndrome
pub mod Bounds
