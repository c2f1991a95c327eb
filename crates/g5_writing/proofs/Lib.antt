pub mod Faults
pub mod Adding
pub mod Parts
pub mod Putting
pub mod Progress
pub mod LineSteps
