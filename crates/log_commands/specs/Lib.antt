pub mod Migrates
pub mod Audits
