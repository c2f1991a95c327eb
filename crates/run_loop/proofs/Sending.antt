-- The pieces of a turn, in the order in which they are written.
use Rattle.std.proofs.Common.{◌≡◌, ℕ, ◌+◌, ◌<◌, ◌≤◌, List, [], ◌∷◌, ◌++◌, length, drop, drop_of_length-le, get_or, refl, ap}
use Rattle.std.proofs.lemmas.List.{drop_more}
use Rattle.run_model.specs.declared.logs.Entry.{Entry}
use Rattle.run_model.specs.declared.outputs.Place.TheVariants.{Log}
use Rattle.run_model.specs.LogLines.{entry_line}
use Rattle.run_model.specs.Pieces.{piece}
use Rattle.run_model.specs.Runs.{Told}
use Rattle.run_model.specs.Texts.{entry_pieces, commit_pieces, turn_pieces}

-- the entries that are left are the next and those behind it
pub entries_step : (es : List Entry) (i : ℕ) (d : Entry) → i < length es
    → entry_pieces (drop i es) ≡ (piece Log (entry_line (get_or es i d)) ∷ [])
    ++ entry_pieces (drop (i + 1) es)
entries_step es i d lt = ap entry_pieces (drop_more es i d lt)

pub entries_end : (es : List Entry) (i : ℕ) → length es ≤ i → entry_pieces (drop i es) ≡ []
entries_end es i le = ap entry_pieces (drop_of_length-le es le)

-- a turn's pieces are those of its entries, and then those of its commit
pub turn_is : (commits : ℕ) (t : Told)
    → entry_pieces t.entries ++ commit_pieces commits t t.event ≡ turn_pieces commits t
unfolding turn_pieces
turn_is commits t = refl
