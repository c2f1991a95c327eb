pub mod Engines
pub mod Making
pub mod Bounds
pub mod Fronts
