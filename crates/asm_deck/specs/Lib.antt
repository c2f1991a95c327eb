pub mod Accepted
pub mod AssembledCards
pub mod AssembledImage
pub mod LoadedSections
pub mod Worked
pub mod Writable
