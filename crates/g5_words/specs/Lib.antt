pub mod ClapCommand
pub mod Found
pub mod Asked
pub mod Ranges
