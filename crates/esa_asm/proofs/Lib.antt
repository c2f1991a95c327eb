mod DeckOfSource
mod TextAssembled
