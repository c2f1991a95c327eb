pub mod Headings
pub mod Lines
pub mod Migrating
pub mod Parts
