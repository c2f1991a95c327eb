-- Counts that are too great anywhere, as one number. Source: choice of this project.
use Rattle.std.specs.Prelude.{ℕ, min, Option, option_map}
use Rattle.run_model.specs.declared.schedules.Run.{Run}

abbrev pub clipped : ℕ → ℕ
clipped n = min n 1000001

abbrev pub clipped_run : Run → Run
clipped_run r = record r { count = clipped r.count }

abbrev pub clipped_if : Option Run → Option Run
clipped_if r = option_map clipped_run r
