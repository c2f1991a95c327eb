-- Events that are sound by their kind.
use Rattle.std.proofs.Common.{◌≡◌, ℕ, [], arith, refl, inl}
use Rattle.std.specs.Prelude.{false, Option, None, Some}
use Rattle.esa_model.specs.declared.events.Interruption.{Interruption}
use Rattle.esa_model.specs.declared.events.Interruption.TheVariants as interruption
use Rattle.esa_model.specs.declared.events.Taken.{Taken}
use Rattle.esa_model.specs.declared.events.Taken.TheVariants as taking
use Rattle.esa_model.specs.declared.machine.Due.{Due}
use Rattle.esa_model.specs.declared.machine.Due.TheVariants.{Idle, Early, External, Restart, UnitOfOperation}
use Rattle.esa_model.specs.declared.machine.Registers.{Registers}
use Rattle.esa_model.specs.Bus.{signals_of}
use Rattle.esa_model.specs.Event.{due}
use Rattle.esa_model.specs.Unit.{interrupted}
use Rattle.esa_model.specs.Machine.{Machine, side_of, done, done_at, done_of, due_at, is_unit}
use Rattle.packet_law.specs.Sound.{IsSound}

-- an interruption stores no operand, reads nothing, sets no key and sends no order, whatever it takes
silent : (m : Machine) (i : ℕ) (r : Registers) (k : Option Interruption) (identification : ℕ) (t : Option Taken)
    → IsSound m i (record (interrupted r k identification []) { taken = t })
silent m i r k identification t = record {
  stored = omega arith;
  inside = λ n h. absurd (omega (arith, h));
  written = omega arith;
  one = inl refl;
  read = tt;
  blocks = omega arith;
  key = tt;
  order = tt;
}

by_due : (m : Machine) (i : ℕ) (q : Due) → is_unit q ≡ false → IsSound m i (done_of (m.registers i) i m.storage (side_of m) q)
by_due m i Idle h = silent m i _ None _ None
by_due m i Early h = silent m i _ (Some interruption.Program) _ None
by_due m i (External q) h = silent m i _ (Some interruption.External) _ (Some (taking.Request q))
by_due m i Restart h = silent m i _ (Some interruption.Restart) _ (Some taking.Restart)
by_due m i UnitOfOperation h = absurd (cc)

pub no_unit : (m : Machine) (i : ℕ) → is_unit (due_at m i) ≡ false → IsSound m i (done_at m i)
unfolding done done_at due_at
no_unit m i h = by_due m i (due (m.registers i) m.clock (signals_of m.bus i)) h
