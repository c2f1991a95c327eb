pub mod Codes
pub mod Used
pub mod Moved
pub mod Units
pub mod Covered
pub mod Source
