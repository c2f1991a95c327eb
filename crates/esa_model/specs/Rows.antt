pub mod Words
pub mod Branches
pub mod Stores
pub mod Bytes
pub mod Decimals
pub mod Controls
pub mod All
