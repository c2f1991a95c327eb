-- What log, trace and console hold. Source: choice of this project.
use Rattle.std.specs.Prelude.{◌≡◌, ℕ, List, [], ◌∷◌, ◌++◌, IsTrue}
use Rattle.g5_outside.specs.Views.{ShelfView, SinkView}
use Rattle.g5_writing.specs.Starts.{text_named}
use Rattle.program_model.specs.Commands.{JobNames}
use Rattle.run_model.specs.declared.outputs.Place.TheVariants.{Log, Trace, Out}
use Rattle.run_model.specs.Pieces.{Piece, text}

-- log, trace and console have these pieces; a file that could not be created has none
pub record Holds (names : JobNames) (pieces : List Piece) (shelf : ShelfView)
    (out_old out_new : SinkView) : Type 0 where
  pub log : IsTrue shelf.told → text_named shelf names.log ≡ text Log pieces
  pub trace : IsTrue shelf.told → text_named shelf names.trace ≡ text Trace pieces
  pub out : IsTrue out_old.told → out_new.taken ≡ out_old.taken ++ text Out pieces

-- no file was created, and nothing written
pub record Untouched (old new : ShelfView) (out_old out_new : SinkView) : Type 0 where
  pub numbers : new.numbers ≡ old.numbers
  pub out : out_new ≡ out_old

-- log and trace were created under their names, and no other file
pub record HasOutputs (names : JobNames) (shelf : ShelfView) : Type 0 where
  pub log : ℕ
  pub trace : ℕ
  pub numbers : shelf.numbers ≡ trace ∷ log ∷ []
  pub log_name : IsTrue shelf.told → shelf.name_of log ≡ names.log
  pub trace_name : IsTrue shelf.told → shelf.name_of trace ≡ names.trace
