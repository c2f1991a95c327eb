-- The whole machine after the interrupt key.
use Rattle.std.proofs.Common.{◌≡◌, ℕ, ◌+◌, List, Some, length, refl, sym, ap, ◌∙◌, subst}
use Rattle.std.specs.Prelude.{slice_get}
use Rattle.esa_model.specs.Bus.{keyed}
use Rattle.esa_model.specs.Clocks.{advanced_clock}
use Rattle.esa_model.specs.Line.{Side}
use Rattle.esa_model.specs.Machine.{Machine as Model_machine, side_of}
use Rattle.esa_model.specs.declared.machine.CpuNo.{CpuNo}
use Rattle.esa_model.specs.declared.machine.Event.TheVariants as event
use Rattle.run_model.specs.declared.faults.Strike.{Strike}
use Rattle.run_model.specs.declared.logs.Config.{Config}
use Rattle.run_model.specs.declared.schedules.RunKind.TheVariants.{Key}
use Rattle.run_model.specs.Cores.{Cores}
use Rattle.run_model.specs.Fate.{nothing_met, sight}
use Rattle.run_model.specs.Runs.{Model, tells, turned}
use Rattle.run_laws.specs.Bounds.{BoundedCpus}
use Rattle.run_laws.proofs.BoundedTurns.{bounded_kept}
use Rattle.sparing.specs.Pools.{stands}
use Rattle.silicon.specs.Chip.{Chip}
use Rattle.core_turns.specs.Giving.{HasRegisters}
use Rattle.core_turns.specs.Held.{CorePool, spare_number}
use Rattle.core_turns.specs.Standing.{StandsAt}
use Rattle.core_turns.specs.declared.held.Held.{Held}
use Rattle.core_turns.specs.declared.held.Held.TheVariants.{Running, Recovering, Lost, Taken}
use Rattle.core_turns.proofs.Buses.{events_len}
use Rattle.core_turns.proofs.Following.{held_counted}
use Rattle.g5_machine.specs.Counts.{Counted, turn_more}
use Rattle.g5_machine.specs.Standing.{StandsByMode, StandsFor}
use Rattle.g5_machine.specs.Turning.{Follows, Obeys, key_told}
use Rattle.g5_machine.specs.declared.machine.Machine.{Machine}

-- the same of a CPU whose registers are the same
pub has_same : (h : Held) (m m2 : Model_machine) (i : ℕ) → m2.registers i ≡ m.registers i
    → HasRegisters h m i → HasRegisters h m2 i
has_same (Running k) m m2 i e has = e ∙ has
has_same (Recovering k) m m2 i e has = tt
has_same (Lost c retries) m m2 i e has = tt
has_same Taken m m2 i e has = tt

keyed_at : (ls : List Strike) (c : Config) (cpu : CpuNo) (h : Held) (z : Chip) (x : Model) (i : ℕ)
    → StandsAt h z x i → StandsAt h z (turned ls c x (Key cpu)) i
unfolding turned
keyed_at ls c cpu h z x i a = record {
  held = held_counted h x.fate.cores i a.held;
  registers = has_same h x.machine _ i refl a.registers;
  stores = λ live.
      let was = a.stores live in
      record { registers = was.registers; clocks = was.clocks; words = was.words };
}

keyed_side : (ls : List Strike) (c : Config) (cpu : CpuNo) (x : Model) (s s2 : Side)
    → side_of x.machine ≡ s
    → s2 ≡ record s { bus = keyed cpu.0 s.bus; clock = advanced_clock s.clock }
    → side_of (turned ls c x (Key cpu)).machine ≡ s2
unfolding turned
keyed_side ls c cpu x s s2 was put =
    ap (λ (q : Side). record q { bus = keyed cpu.0 q.bus; clock = advanced_clock q.clock }) was
    ∙ sym put

keyed_bounds : (ls : List Strike) (c : Config) (x : Model) (cpu : CpuNo) → BoundedCpus ls c x.fate
    → BoundedCpus ls c (turned ls c x (Key cpu)).fate
unfolding turned
keyed_bounds ls c x cpu h = bounded_kept ls c (sight x.machine) x.fate (Key cpu) tt h

pub follows_key : (m m2 : Machine) (cpu : CpuNo) (z : Chip) (x : Model) → StandsFor m z x
    → BoundedCpus z.lines m.config x.fate → m2.cpus.items ≡ m.cpus.items
    → m2.memory.bytes ≡ m.memory.bytes → m2.pool ≡ m.pool
    → m2.side ≡ record m.side { bus = keyed cpu.0 m.side.bus; clock = advanced_clock m.side.clock }
    → m2.counts ≡ turn_more m.counts
    → Follows z.lines m.config x (Key cpu) (key_told cpu) m2 z
unfolding tells turned
follows_key m m2 cpu z x st bounded cpus bytes pool side counts = record {
  told = refl;
  stands = record {
    cpus = ap length cpus ∙ st.cpus ∙ sym (events_len x.machine (Some (event.Key cpu)));
    each = λ i h got.
        keyed_at z.lines m.config cpu h z x i
        (st.each i h (subst (λ (q : List Held). slice_get q i ≡ Some h) cpus got));
    storage = st.storage ∙ sym bytes;
    side = keyed_side z.lines m.config cpu x m.side m2.side st.side side;
    begun = st.begun;
    spares = λ k. st.spares k ∙ ap (λ (p : CorePool). stands spare_number p.spares k) (sym pool);
    counts = record {
      turns = ap (λ q. q + 1) st.counts.turns ∙ sym (ap (λ (n : Counted). n.turns) counts);
      commits = st.counts.commits ∙ sym (ap (λ (n : Counted). n.commits) counts);
      read = st.counts.read ∙ sym (ap (λ (n : Counted). n.read) counts);
      written = st.counts.written ∙ sym (ap (λ (n : Counted). n.written) counts);
    };
  };
  bounded = keyed_bounds z.lines m.config x cpu bounded;
}

pub obeys_key : (m m2 : Machine) (cpu : CpuNo) (s : Cores) → StandsByMode m s
    → m2.cpus.items ≡ m.cpus.items → m2.pool ≡ m.pool → m2.counts ≡ turn_more m.counts
    → Obeys m.config s (Key cpu) (key_told cpu) m2
obeys_key m m2 cpu s st cpus pool counts = record {
  met = nothing_met;
  outline = refl;
  stands = record {
    each = λ i h got.
        held_counted h s i
        (st.each i h (subst (λ (q : List Held). slice_get q i ≡ Some h) cpus got));
    spares = λ k. st.spares k ∙ ap (λ (p : CorePool). stands spare_number p.spares k) (sym pool);
    turns = ap (λ q. q + 1) st.turns ∙ sym (ap (λ (n : Counted). n.turns) counts);
    commits = st.commits ∙ sym (ap (λ (n : Counted). n.commits) counts);
  };
}
