-- The pieces of text that a run writes, in their one order, and where each goes.
-- (A choice of this project: the three outputs of a run are one list of pieces, so that their order is said too.)
use Rattle.std.specs.Prelude.{◌≡◌, ℕ, Bool, true, false, List, [], ◌∷◌, ◌++◌, take, if◌then◌else◌}
use Rattle.run_model.specs.declared.outputs.Place.{Place}
use Rattle.run_model.specs.declared.outputs.Place.TheVariants.{Log, Trace, Out}

pub record Piece : Type 0 where
  pub place : Place
  pub bytes : List ℕ

abbrev pub piece : Place → List ℕ → Piece
piece place bytes = record { place = place; bytes = bytes }

abbrev pub same_place : Place → Place → Bool
same_place Log Log = true
same_place Log Trace = false
same_place Log Out = false
same_place Trace Log = false
same_place Trace Trace = true
same_place Trace Out = false
same_place Out Log = false
same_place Out Trace = false
same_place Out Out = true

-- what one place has of these pieces
abbrev pub text : Place → List Piece → List ℕ
text place [] = []
text place (piece ∷ pieces) = (if same_place place piece.place then piece.bytes else []) ++ text place pieces

-- Pieces that were cut short: some whole ones, then a front of the next, perhaps nothing, and none of those behind it.
pub record IsCut (held whole : List Piece) : Type 0 where
  pub before : List Piece
  pub piece : Piece
  pub behind : List Piece
  pub count : ℕ
  pub whole_is : whole ≡ before ++ piece ∷ behind
  pub held_is : held ≡ before ++ record { place = piece.place; bytes = take count piece.bytes } ∷ []
