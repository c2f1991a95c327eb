pub mod Bits
pub mod Changes
pub mod Stores
pub mod Applied
pub mod Pieces
pub mod Fetched
pub mod Fine
