pub mod Fields
pub mod Parts
pub mod Save
pub mod Worked
