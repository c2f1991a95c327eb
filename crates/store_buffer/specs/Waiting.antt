-- Stores that wait in a buffer, and what they show.
-- Source: choice of this project.
use Rattle.std.specs.Prelude.{ℕ, ◌+◌, ◌-◌, nat_le, nat_lt, ◌&&◌, ◌||◌, Bool, false, if◌then◌else◌, List, [], ◌∷◌, length, slice_get, Option, Some, None, option_map}
use Rattle.std.specs.Option.{option_or}
use Rattle.esa_model.specs.Apply.{Piece, put_all}
use Rattle.store_buffer.specs.declared.span.Span.{Span}

-- what a buffer has, each oldest first; what is committed is older than what is held
pub record Waiting : Type 0 where
  pub committed : List Piece
  pub held : List Piece

-- the byte that a piece has at an address
abbrev pub byte_of : Piece → ℕ → Option ℕ
byte_of p a = if nat_le p.at a then slice_get p.bytes (a - p.at) else None

-- the newest byte that pieces have at an address: that of a younger one, else that of the oldest
abbrev pub newest : List Piece → ℕ → Option ℕ
newest [] a = None
newest (p ∷ ps) a = option_or (newest ps a) (byte_of p a)

-- the byte that a storage shows through pieces
abbrev pub shown : List Piece → List ℕ → ℕ → Option ℕ
shown ps storage a = option_or (newest ps a) (slice_get storage a)

-- where a piece lies
abbrev pub span_of : Piece → Span
span_of p = record { at = p.at; len = length p.bytes }

-- the oldest piece
abbrev pub oldest_of : List Piece → Option Piece
oldest_of [] = None
oldest_of (p ∷ ps) = Some p

-- where it lies
abbrev pub oldest_span : List Piece → Option Span
oldest_span ps = option_map span_of (oldest_of ps)

-- a storage after a piece is stored, where there is one
abbrev pub stored_in : Option Piece → List ℕ → List ℕ
stored_in None storage = storage
stored_in (Some p) storage = put_all p.at p.bytes storage

-- ---- bytes in common

-- whether two pieces, each of one byte or more, have an address in common
abbrev pub meets : Piece → Piece → Bool
meets p q = nat_lt p.at (q.at + length q.bytes) && nat_lt q.at (p.at + length p.bytes)

abbrev pub meets_any : Piece → List Piece → Bool
meets_any p [] = false
meets_any p (q ∷ qs) = meets p q || meets_any p qs

-- whether one of these pieces has an address in common with one of those
abbrev pub clash : List Piece → List Piece → Bool
clash [] qs = false
clash (p ∷ ps) qs = meets_any p qs || clash ps qs
