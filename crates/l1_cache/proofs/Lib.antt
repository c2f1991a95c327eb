pub mod Places
pub mod Copying
pub mod Cohering
