pub mod Known
pub mod Round
pub mod Found
pub mod RowKinds
