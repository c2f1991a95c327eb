pub mod Rising
pub mod Sending
pub mod Joining
pub mod Telling
pub mod Going
pub mod Runs
pub mod Ends
pub mod Fitting
