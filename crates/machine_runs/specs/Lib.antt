pub mod Views
pub mod Whole
pub mod RunTells
pub mod Jobs
