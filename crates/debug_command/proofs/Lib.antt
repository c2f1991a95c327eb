pub mod Refusing
pub mod FromCalls
