pub mod Stored
pub mod Turn
