-- What is counted of entries. Source: choice of this project.
use Rattle.std.specs.Prelude.{ℕ, Bool, List}
use Rattle.run_model.specs.Sorts.{how_many, is_returned_entry, is_spared, is_stop_entry, of_sort}
use Rattle.run_model.specs.declared.logs.Entry.{Entry}
use Rattle.log_audit.specs.declared.judging.Tally.{Tally}

abbrev pub is_spared_entry : Entry → Bool
is_spared_entry e = of_sort is_spared e

abbrev pub tally : ℕ → ℕ → ℕ → Tally
tally returned spared stopped =
    record { returned = returned; spared = spared; stopped = stopped }

abbrev pub tally_of : List Entry → Tally
tally_of es =
    tally (how_many is_returned_entry es) (how_many is_spared_entry es)
    (how_many is_stop_entry es)
