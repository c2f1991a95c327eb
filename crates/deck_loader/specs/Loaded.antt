-- What loading a deck leaves. Source: choice of this project.
use Rattle.std.specs.Prelude.{◌≡◌, ℕ, List, Result, Ok, Err}
use Rattle.deck_model.specs.Image.{Image}
use Rattle.deck_model.specs.declared.decks.DeckRefusal.{DeckRefusal}
use Rattle.deck_model.specs.declared.decks.Loaded.{Loaded}
use Rattle.deck_loader.specs.Listed.{Refuses}

-- the storage is the image at Ok, and is left at a refusal, which is the first violation or want of
-- memory
abbrev pub Loads : Result Image DeckRefusal → List ℕ → List ℕ → Result Loaded DeckRefusal → Type 0
Loads image old new (Ok l) = image ≡ Ok (record { bytes = new; entry = l.address })
Loads image old new (Err r) = (new ≡ old) × Refuses image r
