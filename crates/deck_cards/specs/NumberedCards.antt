-- A deck as cards one behind another, each with its number in columns 73-80.
-- Source: choice of this project.
use Rattle.std.specs.Prelude.{ℕ, ◌+◌, ◌/◌, ◌%◌, ◌^◌, List, [], ◌∷◌, ◌++◌, if◌then◌else◌}
use Rattle.deck_model.specs.Deck.{is_end}
use Rattle.deck_model.specs.CardWriting.{card_bytes}
use Rattle.deck_model.specs.declared.cards.Card.{Card}
use Rattle.deck_model.specs.declared.decks.Numbered.{Numbered}

-- the EBCDIC digit of 10 ^ k
abbrev pub digit : ℕ → ℕ → ℕ
digit k n = 0xF0 + n / 10 ^ k % 10

-- a number in eight EBCDIC digits
unfoldable pub sequence : ℕ → List ℕ
sequence n =
    digit 7 n ∷ digit 6 n ∷ digit 5 n ∷ digit 4 n
    ∷ digit 3 n ∷ digit 2 n ∷ digit 1 n ∷ digit 0 n ∷ []

-- the bytes of cards, the first of which has number n
abbrev pub deck_bytes : ℕ → List Card → List ℕ
deck_bytes n [] = []
deck_bytes n (c ∷ cs) = card_bytes c (sequence n) ++ deck_bytes (n + 1) cs

-- cards from number n on, the first in module m
abbrev pub numbered : ℕ → ℕ → List Card → List Numbered
numbered n m [] = []
numbered n m (c ∷ cs) =
    record { number = n; owner = m; card = c }
    ∷ numbered (n + 1) (if is_end c then m + 1 else m) cs
