-- What other CPUs stand for after the turn of a CPU.
use Rattle.std.specs.Prelude.{slice_get}
use Rattle.std.proofs.Common.{◌≡◌, ◌≢◌, ℕ, false, List, Some, length, sym, ap, ◌∙◌, subst}
use Rattle.esa_model.specs.Line.{Side}
use Rattle.esa_model.specs.Machine.{Machine as Model_machine}
use Rattle.esa_model.specs.declared.machine.CpuNo.{CpuNo}
use Rattle.esa_model.specs.declared.machine.Registers.{Registers}
use Rattle.run_model.specs.declared.logs.Config.{Config}
use Rattle.run_model.specs.declared.logs.Entry.{Entry}
use Rattle.run_model.specs.declared.schedules.RunKind.TheVariants.{Turns}
use Rattle.run_model.specs.Cores.{Cores, Did, counted, is_lost}
use Rattle.run_model.specs.Fate.{met, sight}
use Rattle.run_model.specs.Runs.{Model, turned}
use Rattle.run_laws.specs.Bounds.{Others}
use Rattle.run_laws.proofs.Others.{others_stay}
use Rattle.runit_ecc.specs.Bounds.{AreRegisters}
use Rattle.silicon.specs.Chip.{Chip}
use Rattle.checkpoint_laws.specs.Stored.{ClocksFit, StoredAs}
use Rattle.core_turns.specs.Giving.{HasRegisters}
use Rattle.core_turns.specs.Held.{CorePool, HeldBy, SparesAre}
use Rattle.core_turns.specs.Places.{EachInOnePlace}
use Rattle.core_turns.specs.Standing.{StandsAt}
use Rattle.core_turns.specs.declared.held.Held.{Held}
use Rattle.core_turns.specs.declared.held.Held.TheVariants.{Running, Recovering, Lost, Taken}
use Rattle.core_turns.specs.Made.{Made}
use Rattle.core_turns.proofs.Buses.{events_len}
use Rattle.core_turns.proofs.Sums.{cores_apart, core_no_spare}
use Rattle.core_turns.specs.Following.{Followed, bits_then, did}

-- ---- what is held for another CPU

held_other : (g : Held) (s : Cores) (i j : ℕ) (d : Did) → Others s i d → j ≢ i → HeldBy g s j
    → HeldBy g (counted d.after) j
held_other (Running k) s i j d o ne h =
    (o.mode j ne ∙ h.0, o.core j ne ∙ h.1, o.retries j ne ∙ h.2)
held_other (Recovering k) s i j d o ne h =
    (o.mode j ne ∙ h.0, o.core j ne ∙ h.1, o.retries j ne ∙ h.2)
held_other (Lost c retries) s i j d o ne h =
    (o.mode j ne ∙ h.0, o.core j ne ∙ h.1, o.retries j ne ∙ h.2)
held_other Taken s i j d o ne h = h

has_other : (g : Held) (m m2 : Model_machine) (j : ℕ) → m2.registers j ≡ m.registers j
    → HasRegisters g m j → HasRegisters g m2 j
has_other (Running k) m m2 j e h = e ∙ h
has_other (Recovering k) m m2 j e h = tt
has_other (Lost c retries) m m2 j e h = tt
has_other Taken m m2 j e h = tt

pub bus_len : (z : Chip) (c : Config) (x : Model) (cpu : CpuNo)
    → length (turned z.lines c x (Turns cpu)).machine.bus ≡ length x.machine.bus
unfolding turned
bus_len z c x cpu = events_len x.machine (did z c x cpu.0).event

-- the attempts begun after it
pub begun_is : (z z2 : Chip) (c : Config) (x : Model) (cpu : CpuNo) (k : ℕ)
    → z2.begun k ≡ (bits_then z c x cpu.0).begun k
    → z2.begun k ≡ (turned z.lines c x (Turns cpu)).fate.begun k
unfolding turned
begun_is z z2 c x cpu k e = e

pub other_stands : (c : Config) (cpu : CpuNo) (z z2 : Chip) (bytes2 : List ℕ) (seen2 : Side)
    (p p2 : CorePool) (es : List Entry) (t : Made) (x : Model) (hs : List Held) (h g : Held)
    (j : ℕ) → Followed c cpu z z2 bytes2 seen2 p2 es t x (turned z.lines c x (Turns cpu))
    → EachInOnePlace c hs p → SparesAre p x.fate.cores.spare
    → slice_get hs cpu.0 ≡ Some h → slice_get hs j ≡ Some g → StandsAt h z x cpu.0 → j ≢ cpu.0
    → StandsAt g z x j → StandsAt g z2 (turned z.lines c x (Turns cpu)) j
unfolding turned
other_stands c cpu z z2 bytes2 seen2 p p2 es t x hs h g j f each spares got other own ne a =
    let i = cpu.0 in
    let s = x.fate.cores in
    let d = did z c x i in
    let o : Others s i d =
    others_stay c.threshold s i (met z.lines (sight x.machine i) x.fate i) in
    record {
      held = held_other g s i j d o ne a.held;
      registers = has_other g x.machine _ j (f.registers j ne) a.registers;
      stores = λ live2.
          let live : is_lost (s.mode j) ≡ false = ap is_lost (sym (o.mode j ne)) ∙ live2 in
          let was = a.stores live in
          let words = f.leaves.others (s.core j) (x.machine.registers j)
          (λ l. cores_apart c hs p s i j h g each got other own.held a.held (λ e. ne (sym e)) l live)
          (core_no_spare c hs p s j g each other a.held spares live) was.words in
          record {
            registers = subst (λ (r : Registers). AreRegisters r) (sym (f.registers j ne)) was.registers;
            clocks = subst (λ (r : Registers). ClocksFit r) (sym (f.registers j ne)) was.clocks;
            words =
                subst (λ k. StoredAs z2 k
                ((turned z.lines c x (Turns cpu)).machine.registers j)
                ((bits_then z c x i).wrong k)) (sym (o.core j ne))
                (subst (λ (r : Registers). StoredAs z2 (s.core j) r
                ((bits_then z c x i).wrong (s.core j))) (sym (f.registers j ne)) words);
          };
    }
