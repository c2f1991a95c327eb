-- Whether all runs of a schedule are of the CPUs of a machine.
use Rattle.std.proofs.Common.{◌≡◌, ℕ, zero, suc, Bool, true, false, ◌&&◌, List, [], ◌∷◌, refl, sym, arith, true≢false}
use Rattle.std.specs.List.{All}
use Rattle.std.proofs.lemmas.Bool.{lt-ltb, ltb-true}
use Rattle.std.proofs.lemmas.List.Elements.{All-nil}
use Rattle.run_model.specs.Schedule.{Fits}
use Rattle.run_model.specs.declared.schedules.Run.{Run}
use Rattle.run_model.specs.declared.schedules.RunKind.{RunKind}
use Rattle.run_model.specs.declared.schedules.RunKind.TheVariants.{Turns, Key, Return}
use Rattle.g5_debugger.specs.Fitting.{all_fit, fits}

fits_so : (cpus : ℕ) (k : RunKind) → Fits cpus k → fits cpus k ≡ true
fits_so cpus (Turns c) h = lt-ltb c.0 cpus h
fits_so cpus (Key c) h = lt-ltb c.0 cpus h
fits_so cpus (Return k) h = lt-ltb k.0 16 h

so_fits : (cpus : ℕ) (k : RunKind) → fits cpus k ≡ true → Fits cpus k
so_fits cpus (Turns c) e = ltb-true c.0 cpus e
so_fits cpus (Key c) e = ltb-true c.0 cpus e
so_fits cpus (Return k) e = ltb-true k.0 16 e

both : (a b : Bool) → a ≡ true → b ≡ true → (a && b) ≡ true
both true b e f = f
both false b e f = absurd (true≢false (sym e))

left_one : (a b : Bool) → (a && b) ≡ true → a ≡ true
left_one true b e = refl
left_one false b e = e

right_one : (a b : Bool) → (a && b) ≡ true → b ≡ true
right_one true b e = e
right_one false b e = absurd (true≢false (sym e))

pub all_so : (cpus : ℕ) (rs : List Run) → All (λ (r : Run). Fits cpus r.what) rs
    → all_fit cpus rs ≡ true
all_so cpus [] h = refl
all_so cpus (r ∷ rs) h =
    both (fits cpus r.what) (all_fit cpus rs) (fits_so cpus r.what (h 0 r (omega arith)))
    (all_so cpus rs (λ i d lt. h (suc i) d (omega (arith, lt))))

cons : (cpus : ℕ) (r : Run) (rs : List Run) → Fits cpus r.what
    → All (λ (q : Run). Fits cpus q.what) rs → All (λ (q : Run). Fits cpus q.what) (r ∷ rs)
cons cpus r rs one rest zero d lt = one
cons cpus r rs one rest (suc i) d lt = rest i d (omega (arith, lt))

pub so_all : (cpus : ℕ) (rs : List Run) → all_fit cpus rs ≡ true
    → All (λ (r : Run). Fits cpus r.what) rs
so_all cpus [] e = All-nil (λ (r : Run). Fits cpus r.what)
so_all cpus (r ∷ rs) e =
    cons cpus r rs (so_fits cpus r.what (left_one (fits cpus r.what) (all_fit cpus rs) e))
    (so_all cpus rs (right_one (fits cpus r.what) (all_fit cpus rs) e))
