pub mod Briefs
pub mod Lands
pub mod Masked
pub mod Masks
pub mod Smalls
