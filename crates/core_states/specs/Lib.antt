pub mod Words
pub mod Word
pub mod Read
pub mod Trial
pub mod Tried
pub mod States
