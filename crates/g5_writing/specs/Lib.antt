pub mod Outputs
pub mod Starts
pub mod Lines
