pub mod Cuts
pub mod Operands
