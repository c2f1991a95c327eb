pub mod Codes
pub mod Opcodes
pub mod Always
pub mod Selected
pub mod Successive
