pub mod AssembledSource
pub mod LoadedDeck
