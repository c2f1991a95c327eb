pub mod Below
pub mod Parities
pub mod SoFar
pub mod Readings
pub mod Tries
pub mod Causes
