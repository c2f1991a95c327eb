pub mod Sayings
pub mod Quits
pub mod LineTexts
pub mod TurnsMade
pub mod Putting
pub mod Steps
pub mod Jobs
pub mod Ends
