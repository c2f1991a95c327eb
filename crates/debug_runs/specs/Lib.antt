pub mod CommandLines
pub mod Conversing
pub mod Holding
pub mod Consequences
