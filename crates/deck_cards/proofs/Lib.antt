pub mod Lengths
pub mod Reading
pub mod RelocationSteps
pub mod RunBytes
pub mod TextSteps
