pub mod Between
pub mod Worked
