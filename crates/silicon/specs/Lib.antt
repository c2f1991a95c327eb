pub mod Chip
pub mod Landing
pub mod Lines
pub mod Resumed
pub mod Seen
pub mod SeenTap
pub mod Tape
