pub mod Statements
pub mod Disassembles
