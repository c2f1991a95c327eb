pub mod Fine
pub mod Sound
pub mod Widths
pub mod Rows
