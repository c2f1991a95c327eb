pub mod Cuts
pub mod EndsRead
pub mod Feeds
pub mod Plain
pub mod Taken
pub mod Written
