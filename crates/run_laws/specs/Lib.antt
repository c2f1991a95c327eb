pub mod Runs
pub mod TurnModes
pub mod Counted
pub mod Bounds
pub mod EventRuns
pub mod Rules
