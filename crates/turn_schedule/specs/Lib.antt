pub mod Clipped
pub mod Words
