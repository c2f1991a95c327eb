pub mod Accepting
pub mod Composing
pub mod Counts
pub mod Deciding
pub mod Flags
pub mod Gathered
pub mod Marks
pub mod Made
