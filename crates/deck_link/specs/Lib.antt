pub mod Answers
pub mod Constants
pub mod Marks
pub mod Parts
pub mod Sound
