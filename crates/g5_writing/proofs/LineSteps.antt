-- The lines from a place on.
use Rattle.std.proofs.Common.{◌≡◌, ℕ, ◌+◌, ◌<◌, List, [], ◌∷◌, ◌++◌, length, drop, get_or, refl, add-one}
use Rattle.std.proofs.Math.Seq.{drop-cons}
use Rattle.std.specs.Borrow.{Bor}
use Rattle.run_model.specs.Pieces.{piece}
use Rattle.run_model.specs.declared.outputs.Place.{Place}
use Rattle.g5_writing.specs.Lines.{line_pieces}

pub lines_step : (place : Place) (lines : List (Bor (List ℕ))) (i : ℕ) (d : Bor (List ℕ)) → i < length lines → line_pieces place (drop i lines) ≡ (piece place (get_or lines i d).now ∷ []) ++ line_pieces place (drop (i + 1) lines)
lines_step place lines i d lt = rw (drop-cons lines i d lt, add-one) refl
