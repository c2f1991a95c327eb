-- The text of a section as TXT cards: each longest run of bytes on which something stands, cut at 56
-- bytes.
-- Source: choice of this project.
use Rattle.std.specs.Prelude.{ℕ, zero, suc, ◌+◌, ◌-◌, Bool, true, false, ◌&&◌, ◌==◌, nat_lt, nat_le, if◌then◌else◌, List, [], ◌∷◌, length, slice_index}
use Rattle.deck_model.specs.Card.{txt}
use Rattle.deck_model.specs.Image.{bytes_from}
use Rattle.deck_model.specs.declared.cards.Card.{Card}

pub record Run : Type 0 where
  pub at : ℕ
  pub bytes : List ℕ

-- before more runs, the run of so many bytes from a place on; no run where there are none
abbrev pub closed : (ℕ → ℕ) → ℕ → ℕ → List Run → List Run
closed byte at zero more = more
closed byte at (suc n) more = record { at = at; bytes = bytes_from byte at (suc n) } ∷ more

-- a run that is open, from its place on with so many bytes held, before the next byte: whether
-- something stands on that one, and whether the run is full
abbrev pub next_run :
    Bool → Bool → (ℕ → ℕ) → ℕ → ℕ → (ℕ → ℕ → List Run) → List Run
next_run false full byte at held more = closed byte at held (more (at + held + 1) 0)
next_run true false byte at held more = more at (held + 1)
next_run true true byte at held more = closed byte at held (more (at + held) 1)

-- the runs of the open run and of n bytes behind it
abbrev pub runs : (ℕ → Bool) → (ℕ → ℕ) → ℕ → ℕ → ℕ → List Run
runs stands byte at held zero = closed byte at held []
runs stands byte at held (suc n) =
    next_run (stands (at + held)) (held == 56) byte at held
    (λ a more. runs stands byte a more n)

-- the runs of a section of n bytes
abbrev pub runs_of : (ℕ → Bool) → (ℕ → ℕ) → ℕ → List Run
runs_of stands byte n = runs stands byte 0 0 n

-- in the section of an ESDID
abbrev pub text_cards : ℕ → List Run → List Card
text_cards id [] = []
text_cards id (r ∷ rs) = txt id r.at r.bytes ∷ text_cards id rs

abbrev pub reaches : ℕ → ℕ → ℕ → Bool
reaches at n a = nat_le at a && nat_lt a (at + n)

-- the last byte of the runs placed at a, else the byte before
abbrev pub run_byte : List Run → ℕ → ℕ → ℕ
run_byte [] a before = before
run_byte (r ∷ rs) a before =
    run_byte rs a
    (if reaches r.at (length r.bytes) a then slice_index r.bytes (a - r.at) else before)
