pub mod Card
pub mod CardWriting
pub mod Deck
pub mod Image
pub mod Linking
pub mod WorkedDecks
