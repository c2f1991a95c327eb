pub mod Counts
pub mod Fits
pub mod Standing
pub mod Starting
pub mod Turning
