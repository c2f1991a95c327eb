-- The kinds of runs, one by one; and one entry alone.
use Rattle.std.proofs.Common.{ℕ, List, [], ◌∷◌, arith}
use Rattle.std.specs.List.{All}
use Rattle.std.proofs.lemmas.List.Elements.{All-cons, All-nil}
use Rattle.run_model.specs.declared.logs.Entry.{Entry}
use Rattle.run_model.specs.declared.schedules.Run.{Run}
use Rattle.run_model.specs.Schedule.{Fits}
use Rattle.run_loop.specs.Engines.{FailsAsStruck, IsStruck}

abbrev pub AllFit : ℕ → List Run → Type 0
AllFit cpus [] = Unit {0}
AllFit cpus (r ∷ rs) = Fits cpus r.what × AllFit cpus rs

pub all_fit : (cpus : ℕ) (rs : List Run) → AllFit cpus rs
    → All (λ (r : Run). Fits cpus r.what) rs
all_fit cpus [] h = λ i d lt. absurd (omega (arith, lt))
all_fit cpus (r ∷ rs) h =
    All-cons (λ (x : Run). Fits cpus x.what) r rs h.0 (all_fit cpus rs h.1)

pub one_struck : (e : Entry) → IsStruck [] e.core.0 e.what → FailsAsStruck [] (e ∷ [])
one_struck e h =
    All-cons (λ (x : Entry). IsStruck [] x.core.0 x.what) e [] h
    (All-nil (λ (x : Entry). IsStruck [] x.core.0 x.what))

pub none_struck : FailsAsStruck [] []
none_struck = All-nil (λ (x : Entry). IsStruck [] x.core.0 x.what)
