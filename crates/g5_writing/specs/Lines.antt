-- Lines as pieces.
use Rattle.std.specs.Prelude.{ℕ, List, [], ◌∷◌}
use Rattle.std.specs.Borrow.{Bor}
use Rattle.run_model.specs.Pieces.{Piece, piece}
use Rattle.run_model.specs.declared.outputs.Place.{Place}

-- one piece for each line, all in one place
abbrev pub line_pieces : Place → List (Bor (List ℕ)) → List Piece
line_pieces place [] = []
line_pieces place (line ∷ lines) = piece place line.now ∷ line_pieces place lines
