pub mod Named
pub mod Spots
pub mod Found
pub mod Kinds
pub mod Fitting
pub mod WrittenLines
