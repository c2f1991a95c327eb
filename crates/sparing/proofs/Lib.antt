pub mod First
pub mod Puts
pub mod Taken
pub mod Lowest
pub mod Apart
pub mod Fenced
