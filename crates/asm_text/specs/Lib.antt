pub mod Operands
pub mod Text
pub mod Lines
pub mod Worked
