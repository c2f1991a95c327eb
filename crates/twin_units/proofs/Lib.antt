pub mod Quiet
pub mod Fetched
pub mod Carried
pub mod Latched
pub mod Sound
pub mod Applied
pub mod Filled
