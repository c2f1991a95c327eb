-- What the counts of a run count. Source: choice of this project.
use Rattle.std.specs.Prelude.{◌≡◌, List, Bool, true, false, length}
use Rattle.esa_model.specs.declared.machine.Event.{Event}
use Rattle.esa_model.specs.declared.machine.Event.TheVariants.{Commit}
use Rattle.run_model.specs.declared.outputs.Counts.{Counts}
use Rattle.run_model.specs.Runs.{Told, entries, order}
use Rattle.run_model.specs.Sorts.{how_many, of_sort, is_fail, is_retry, is_corrected, is_spared, is_stop, is_returned}

abbrev pub is_commit : Event → Bool
is_commit (Commit i) = true
is_commit e = false

-- the turns, their commits, and their log entries of each sort
pub record Counted (ts : List Told) (n : Counts) : Type 0 where
  pub turns : n.turns ≡ length ts
  pub commits : n.commits ≡ how_many is_commit (order ts)
  pub fails : n.fails ≡ how_many (of_sort is_fail) (entries ts)
  pub retries : n.retries ≡ how_many (of_sort is_retry) (entries ts)
  pub corrected : n.corrected ≡ how_many (of_sort is_corrected) (entries ts)
  pub spared : n.spared ≡ how_many (of_sort is_spared) (entries ts)
  pub stopped : n.stopped ≡ how_many (of_sort is_stop) (entries ts)
  pub returned : n.returned ≡ how_many (of_sort is_returned) (entries ts)
