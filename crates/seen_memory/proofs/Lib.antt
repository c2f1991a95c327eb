pub mod Oldest
pub mod Order
pub mod Through
pub mod Steps
pub mod Groups
pub mod Holding
pub mod Unused
