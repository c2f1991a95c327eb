-- Schedules for a machine of so many CPUs. Source: choice of this project.
use Rattle.std.specs.Prelude.{ℕ, Bool, List, nat_lt}
use Rattle.std.specs.List.{list_all}
use Rattle.run_model.specs.declared.schedules.Run.{Run}
use Rattle.run_model.specs.declared.schedules.RunKind.{RunKind}
use Rattle.run_model.specs.declared.schedules.RunKind.TheVariants.{Turns, Key, Return}

abbrev pub fits : ℕ → RunKind → Bool
fits cpus (Turns c) = nat_lt c.0 cpus
fits cpus (Key c) = nat_lt c.0 cpus
fits cpus (Return k) = nat_lt k.0 16

abbrev pub all_fit : ℕ → List Run → Bool
all_fit cpus runs = list_all (λ (r : Run). fits cpus r.what) runs
