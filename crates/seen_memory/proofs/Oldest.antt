-- The oldest piece and the rest, and what one drain of a buffer stores.
use Rattle.std.specs.Prelude.{ℕ, ◌+◌, ◌≤◌, List, drop, IfSome}
use Rattle.esa_model.specs.Apply.{Piece}
use Rattle.store_buffer.specs.Waiting.{oldest_of, oldest_span, stored_in}

abbrev pub tail_of : List Piece → List Piece
tail_of ps = drop 1 ps

abbrev pub stored_oldest : List Piece → List ℕ → List ℕ
stored_oldest ps s = stored_in (oldest_of ps) s

-- it lies inside a storage of so many bytes
abbrev pub OldestInside : ℕ → List Piece → Type 0
OldestInside n ps = IfSome (oldest_span ps) (λ w. w.at + w.len ≤ n)
