pub mod Numbers
pub mod Saved
pub mod Again
