-- The registers that are held for a CPU, and those of the state.
use Rattle.std.specs.Prelude.{Option, Some, None, is_some}
use Rattle.std.specs.Option.{option_map}
use Rattle.std.proofs.Common.{◌≡◌, ℕ, refl, sym, ap, ◌∙◌}
use Rattle.esa_model.specs.declared.machine.Registers.{Registers}
use Rattle.run_model.specs.declared.faults.Mode.{Mode}
use Rattle.run_model.specs.Cores.{Cores}
use Rattle.run_model.specs.Runs.{Model}
use Rattle.silicon.specs.Chip.{Chip}
use Rattle.core_turns.specs.Held.{HeldBy}
use Rattle.core_turns.specs.Standing.{StandsAt}
use Rattle.core_turns.specs.declared.held.Held.{Held}
use Rattle.core_turns.specs.declared.held.Held.TheVariants.{Running, Recovering, Lost, Taken}
use Rattle.g5_machine.specs.Standing.{is_running, registers_held, registers_in}

some_if : {X : Type 0} (f : X → Registers) (o : Option X) → is_some (option_map f o) ≡ is_some o
some_if f None = refl
some_if f (Some x) = refl

runs_by : (h : Held) (s : Cores) (i : ℕ) → HeldBy h s i
    → is_some (registers_held h) ≡ is_running (s.mode i)
runs_by (Running k) s i e = ap is_running (sym e.0)
runs_by (Recovering k) s i e = ap is_running (sym e.0)
runs_by (Lost c retries) s i e = ap is_running (sym e.0)
runs_by Taken s i e = absurd e

pub runs_as : {X : Type 0} (f : X → Registers) (o : Option X) (h : Held) (s : Cores) (i : ℕ)
    → option_map f o ≡ registers_held h → HeldBy h s i → is_some o ≡ is_running (s.mode i)
runs_as f o h s i e by =
    sym (some_if f o) ∙ ap (λ (q : Option Registers). is_some q) e ∙ runs_by h s i by

pub registers_are : (h : Held) (z : Chip) (x : Model) (i : ℕ) → StandsAt h z x i
    → registers_held h ≡ registers_in (x.fate.cores.mode i) (x.machine.registers i)
registers_are (Running k) z x i at =
    ap (λ (q : Registers). Some q) (sym at.registers)
    ∙ ap (λ (q : Mode). registers_in q (x.machine.registers i)) (sym at.held.0)
registers_are (Recovering k) z x i at =
    ap (λ (q : Mode). registers_in q (x.machine.registers i)) (sym at.held.0)
registers_are (Lost c retries) z x i at =
    ap (λ (q : Mode). registers_in q (x.machine.registers i)) (sym at.held.0)
registers_are Taken z x i at = absurd at.held
