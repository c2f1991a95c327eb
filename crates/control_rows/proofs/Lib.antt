pub mod Called
pub mod Covered
pub mod Quiet
