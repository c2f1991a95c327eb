pub mod Units
pub mod Events
pub mod Results
pub mod UnitsSeen
