pub mod Turn
pub mod Over
pub mod Codes
pub mod TwoBlocks
