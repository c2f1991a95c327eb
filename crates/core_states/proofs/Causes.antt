-- An attempt fails by one cause or by none.
use Rattle.std.proofs.Common.{◌≡◌, ℕ, ◌<◌, Bool, true, false, length, Option, Some, None, refl, sym, ◌∙◌}
use Rattle.run_model.specs.Strikes.{mask_byte}
use Rattle.run_model.specs.declared.faults.Cause.{Cause}
use Rattle.run_model.specs.declared.faults.Cause.TheVariants.{Fetch, Mismatch, Store}
use Rattle.run_model.specs.declared.faults.Unit.TheVariants.{A}
use Rattle.silicon.proofs.Masked.{told_none}
use Rattle.core_states.specs.Trial.{Trial, FailsBy, passed_a, fetch_good, store_good}

apart : (b : Bool) → b ≡ true → b ≡ false → ⊥
apart b e f = let q : true ≡ false = sym e ∙ f in absurd cc

pub only_one : (t : Trial) (o p : Option Cause) → FailsBy t o → FailsBy t p → o ≡ p
only_one t (Some Fetch) (Some Fetch) h g = refl
only_one t (Some Fetch) (Some Mismatch) h g = absurd (apart (fetch_good t) g.0 h)
only_one t (Some Fetch) (Some Store) h g = absurd (apart (fetch_good t) g.0 h)
only_one t (Some Fetch) None h g = absurd (apart (fetch_good t) g.0 h)
only_one t (Some Mismatch) (Some Fetch) h g = absurd (apart (fetch_good t) h.0 g)
only_one t (Some Mismatch) (Some Mismatch) h g = refl
only_one t (Some Mismatch) (Some Store) h g = absurd (h.1 g.1)
only_one t (Some Mismatch) None h g = absurd (h.1 g.1)
only_one t (Some Store) (Some Fetch) h g = absurd (apart (fetch_good t) h.0 g)
only_one t (Some Store) (Some Mismatch) h g = absurd (g.1 h.1)
only_one t (Some Store) (Some Store) h g = refl
only_one t (Some Store) None h g = absurd (apart (store_good t) g.2 h.2)
only_one t None (Some Fetch) h g = absurd (apart (fetch_good t) h.0 g)
only_one t None (Some Mismatch) h g = absurd (g.1 h.1)
only_one t None (Some Store) h g = absurd (apart (store_good t) h.2 g.2)
only_one t None None h g = refl

pub unstruck : (t : Trial)
    → ((k : ℕ) → k < length t.a → mask_byte t.lines t.core.0 A t.number k ≡ 0) → passed_a t ≡ t.a
unfolding passed_a
unstruck t h = told_none (mask_byte t.lines t.core.0 A t.number) t.a h
