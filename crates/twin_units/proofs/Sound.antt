-- Events that are sound by their kind.
use Rattle.std.proofs.Common.{ℕ, [], refl, arith, inl}
use Rattle.std.specs.Prelude.{Option, Some, None}
use Rattle.esa_model.specs.declared.events.Interruption.{Interruption}
use Rattle.esa_model.specs.declared.events.Interruption.TheVariants.{Program, External}
use Rattle.esa_model.specs.declared.events.Taken.{Taken}
use Rattle.esa_model.specs.declared.events.Taken.TheVariants as taking
use Rattle.esa_model.specs.declared.machine.Registers.{Registers}
use Rattle.esa_model.specs.declared.machine.Request.{Request}
use Rattle.esa_model.specs.Machine.{Machine}
use Rattle.esa_model.specs.Unit.{interrupted, suppressed}
use Rattle.packet_law.specs.Sound.{IsSound}
use Rattle.twin_units.specs.Events.{requested}

-- an interruption stores nothing, reads nothing, sets no key and sends no order, whatever it takes
sound_taking : (m : Machine) (i : ℕ) (r : Registers) (kind : Option Interruption) (identification : ℕ) (t : Option Taken)
    → IsSound m i (record (interrupted r kind identification []) { taken = t })
sound_taking m i r kind identification t = record {
  stored = omega arith;
  inside = λ k below. absurd (omega (arith, below));
  written = omega arith;
  one = inl refl;
  read = tt;
  blocks = omega arith;
  key = tt;
  order = tt;
}

pub sound_requested : (m : Machine) (i : ℕ) (r : Registers) (q : Option Request) → IsSound m i (requested r q)
sound_requested m i r None = sound_taking m i r None 0 None
sound_requested m i r (Some q) = sound_taking m i r (Some External) _ (Some (taking.Request q))

pub sound_suppressed : (m : Machine) (i : ℕ) (r : Registers) (len code : ℕ) → IsSound m i (suppressed r len code [])
unfolding suppressed
sound_suppressed m i r len code = sound_taking m i _ (Some Program) _ None
