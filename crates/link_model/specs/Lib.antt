pub mod Link
pub mod Linked
pub mod Loading
pub mod Worked
