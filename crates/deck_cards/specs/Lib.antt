pub mod NumberedCards
pub mod RelocationCards
pub mod TextCards
pub mod Worked
pub mod Writable
