-- Signals put back where they stood.
use Rattle.std.proofs.Common.{◌≡◌, ℕ, zero, suc, List, [], ◌∷◌, refl, ap}
use Rattle.std.specs.Prelude.{slice_set, slice_get, None}
use Rattle.std.specs.Option.{unwrap_or}
use Rattle.esa_model.specs.declared.machine.Signals.{Signals}
use Rattle.esa_model.specs.declared.machine.CpuState.TheVariants.{CheckStop}
use Rattle.esa_model.specs.Bus.{taken, signals_of, quiet}

pub put_back : (bus : List Signals) (i : ℕ) (q : Signals) → bus ≡ slice_set bus i (unwrap_or (slice_get bus i) q)
put_back [] i q = refl
put_back (s ∷ bus) zero q = refl
put_back (s ∷ bus) (suc i) q = ap (λ (ss : List Signals). s ∷ ss) (put_back bus i q)

pub nothing_taken : (i : ℕ) (bus : List Signals) → bus ≡ taken None i bus
unfolding taken signals_of
nothing_taken i bus = put_back bus i (quiet CheckStop)
