pub mod Returned
pub mod Bringing
pub mod Keying
pub mod After
pub mod Obeying
pub mod Starts
pub mod Firsts
pub mod Seeing
