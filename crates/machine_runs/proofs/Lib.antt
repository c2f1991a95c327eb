pub mod Failing
pub mod Giving
pub mod Wholes
pub mod RunTold
pub mod Starting
pub mod AtJobs
