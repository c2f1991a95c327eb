pub mod Law
pub mod Raws
pub mod Sizes
