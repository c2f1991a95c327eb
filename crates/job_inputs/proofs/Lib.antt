pub mod InputReads
pub mod Loads
pub mod Jobs
