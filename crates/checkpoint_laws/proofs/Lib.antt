pub mod Codes
pub mod Fitting
pub mod ReadAs
pub mod Chips
pub mod Kept
pub mod Few
pub mod Begun
pub mod Exits
