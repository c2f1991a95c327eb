pub mod Blanks
pub mod Digits
pub mod Operating
pub mod Rows
