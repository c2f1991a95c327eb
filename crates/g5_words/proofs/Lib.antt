pub mod Views
pub mod Rows
pub mod Leaf
pub mod Turns
pub mod Agreement
pub mod Whole
pub mod Texts
pub mod Hexadecimals
