-- The whole machine after the turn of a CPU.
use Rattle.std.specs.Prelude.{min, slice_get, slice_set}
use Rattle.std.proofs.Common.{◌≡◌, ℕ, ◌+◌, ◌-◌, ◌≤◌, List, Option, Some, None, length, refl, sym, ap, ◌∙◌, subst, arith, inl, inr}
use Rattle.std.proofs.lemmas.Bool.{cases_eq}
use Rattle.std.proofs.lemmas.List.{length-set}
use Rattle.esa_model.specs.Line.{Side}
use Rattle.esa_model.specs.Machine.{Machine as Model_machine}
use Rattle.esa_model.specs.Run.{run}
use Rattle.esa_model.specs.declared.machine.CpuNo.{CpuNo}
use Rattle.esa_model.specs.declared.machine.Event.{Event}
use Rattle.esa_model.specs.declared.machine.Event.TheVariants as event
use Rattle.run_model.specs.declared.logs.Config.{Config}
use Rattle.run_model.specs.declared.logs.Entry.{Entry}
use Rattle.run_model.specs.declared.schedules.RunKind.TheVariants.{Turns}
use Rattle.run_model.specs.Counts.{commits_by}
use Rattle.run_model.specs.Cores.{Cores, Did, Met, does}
use Rattle.run_model.specs.Fate.{met, sight}
use Rattle.run_model.specs.Runs.{Model, Told, events_of, tells, tells_by, turned}
use Rattle.run_laws.proofs.Rows.{does_by}
use Rattle.silicon.specs.Chip.{Chip}
use Rattle.core_turns.specs.Following.{Followed, did}
use Rattle.core_turns.specs.Giving.{KeepsCount, told_of}
use Rattle.core_turns.specs.Meeting.{event_of}
use Rattle.core_turns.specs.Places.{EachInOnePlace}
use Rattle.core_turns.specs.Standing.{StandsAt}
use Rattle.core_turns.specs.declared.held.Held.{Held}
use Rattle.core_turns.specs.Made.{Made}
use Rattle.core_turns.specs.declared.outcomes.Outcome.{Outcome}
use Rattle.core_turns.specs.declared.outcomes.Outcome.TheVariants.{
  Committed,
  Failed,
  Idle,
  Retried,
  Spared,
  Stopped,
}
use Rattle.core_turns.proofs.Others.{begun_is, bus_len, other_stands}
use Rattle.core_turns.proofs.Sums.{get_other, get_same}
use Rattle.g5_machine.specs.Counts.{Counted, counted_by}
use Rattle.g5_machine.specs.Standing.{CountsAre, StandsFor}
use Rattle.g5_machine.specs.declared.machine.Machine.{Machine}

-- ---- turns and commits of the fate

pub record Counts (s : Cores) (d : Did) : Type 0 where
  pub turns : d.after.turns ≡ s.turns
  pub commits : d.after.commits ≡ commits_by d.event s.commits

pub does_counts : (t : ℕ) (s : Cores) (i : ℕ) (x : Met) → Counts s (does t s i x)
does_counts t s i x =
    does_by t s i x (Counts s) (record {
      gone = λ m. record { turns = refl; commits = refl };
      waits = λ m w. record { turns = refl; commits = refl };
      commits = λ m w notes. record { turns = refl; commits = refl };
      fails = λ m notes why n. record { turns = refl; commits = refl };
      scrub_lost = λ m notes w. record { turns = refl; commits = refl };
      retries = λ m lt notes. record { turns = refl; commits = refl };
      retry_lost = λ m lt notes w. record { turns = refl; commits = refl };
      none_left = λ m le is. record { turns = refl; commits = refl };
      transfers = λ m le k is notes. record { turns = refl; commits = refl };
      transfer_lost = λ m le k is notes w. record { turns = refl; commits = refl };
    })

tells_event : (m : Model_machine) (es : List Entry) (e : Option Event) → (tells_by m es e).event ≡ e
tells_event m es None = refl
tells_event m es (Some (event.Commit i)) = refl
tells_event m es (Some (event.Idle i)) = refl
tells_event m es (Some (event.Stop i)) = refl
tells_event m es (Some (event.Key i)) = refl

-- the event that the turn came to is that of the fate
event_is : (c : Config) (cpu : CpuNo) (z : Chip) (es : List Entry) (t : Made) (x : Model)
    → told_of cpu.0 es t ≡ tells z.lines c x (Turns cpu)
    → event_of cpu.0 t.outcome ≡ (did z c x cpu.0).event
unfolding tells
event_is c cpu z es t x told =
    ap (λ (q : Told). q.event) told ∙ tells_event x.machine _ (did z c x cpu.0).event

-- ---- what is counted

-- the counts before, of what the model of a machine has before and after an event
record CountsAfter (n2 : Counted) (s : Cores) (x y : Model_machine) (k : ℕ) : Type 0 where
  turns : s.turns + 1 ≡ n2.turns
  commits : k ≡ n2.commits
  read : y.console_read ≡ n2.read
  written : length y.console_written ≡ n2.written

read_is : (a b left left2 : ℕ) → b + left2 ≡ a + left → a ≤ b → b ≤ a + 256
    → b ≡ a + min (left - left2) 256
read_is a b left left2 e more few = omega (arith, e, more, few)

counts_by : (o : Outcome) (i : ℕ) (n : Counted) (s : Cores) (m : Model_machine) (left left2 : ℕ)
    (out : List ℕ) → s.turns ≡ n.turns → s.commits ≡ n.commits → m.console_read ≡ n.read
    → length m.console_written ≡ n.written → left ≡ length m.console
    → left2 ≡ length (run m (events_of (event_of i o))).console
    → KeepsCount m (run m (events_of (event_of i o))) out
    → CountsAfter (counted_by o (min (left - left2) 256) (length out) n) s m
    (run m (events_of (event_of i o))) (commits_by (event_of i o) s.commits)
counts_by Committed i n s m left left2 out turns commits read written l l2 k = record {
  turns = ap (λ q. q + 1) turns;
  commits = ap (λ q. q + 1) commits;
  read = read_is m.console_read _ left left2 (rw (l, l2) k.read) k.more k.few
      ∙ ap (λ q. q + min (left - left2) 256) read;
  written = k.written ∙ ap (λ q. q + length out) written;
}
counts_by Idle i n s m left left2 out turns commits read written l l2 k =
    record { turns = ap (λ q. q + 1) turns; commits = commits; read = read; written = written }
counts_by (Failed why) i n s m left left2 out turns commits read written l l2 k =
    record { turns = ap (λ q. q + 1) turns; commits = commits; read = read; written = written }
counts_by (Retried r) i n s m left left2 out turns commits read written l l2 k =
    record { turns = ap (λ q. q + 1) turns; commits = commits; read = read; written = written }
counts_by (Spared j) i n s m left left2 out turns commits read written l l2 k =
    record { turns = ap (λ q. q + 1) turns; commits = commits; read = read; written = written }
counts_by Stopped i n s m left left2 out turns commits read written l l2 k =
    record { turns = ap (λ q. q + 1) turns; commits = commits; read = read; written = written }

pub counts_after : (m m2 : Machine) (cpu : CpuNo) (z z2 : Chip) (es : List Entry) (t : Made)
    (x : Model) → StandsFor m z x
    → m2.counts ≡ counted_by t.outcome (min (length m.side.console - length m2.side.console) 256)
    (length t.written.console.items) m.counts
    → Followed m.config cpu z z2 m2.memory.bytes m2.side m2.pool es t x
    (turned z.lines m.config x (Turns cpu))
    → CountsAre m2.counts (turned z.lines m.config x (Turns cpu))
unfolding turned
counts_after m m2 cpu z z2 es t x st put f =
    let i = cpu.0 in
    let d = did z m.config x i in
    let e = event_is m.config cpu z es t x f.told in
    let n =
    does_counts m.config.threshold x.fate.cores i (met z.lines (sight x.machine i) x.fate i) in
    let k : KeepsCount x.machine (run x.machine (events_of (event_of i t.outcome)))
    t.written.console.items =
    subst (λ q. KeepsCount x.machine (run x.machine (events_of q)) t.written.console.items) (sym e)
    f.console in
    let left2 : length m2.side.console
    ≡ length (run x.machine (events_of (event_of i t.outcome))).console =
    sym (ap (λ (s : Side). length s.console) f.side)
    ∙ ap (λ q. length (run x.machine (events_of q)).console) (sym e) in
    let by = counts_by t.outcome i m.counts x.fate.cores x.machine (length m.side.console)
    (length m2.side.console) t.written.console.items st.counts.turns st.counts.commits
    st.counts.read st.counts.written (sym (ap (λ (s : Side). length s.console) st.side)) left2 k in
    record {
      turns = ap (λ q. q + 1) n.turns ∙ by.turns ∙ sym (ap (λ (c : Counted). c.turns) put);
      commits = n.commits ∙ ap (λ q. commits_by q x.fate.cores.commits) (sym e) ∙ by.commits
          ∙ sym (ap (λ (c : Counted). c.commits) put);
      read = ap (λ q. (run x.machine (events_of q)).console_read) (sym e) ∙ by.read
          ∙ sym (ap (λ (c : Counted). c.read) put);
      written = ap (λ q. length (run x.machine (events_of q)).console_written) (sym e) ∙ by.written
          ∙ sym (ap (λ (c : Counted). c.written) put);
    }

-- ---- the machine

pub stands_after : (m m2 : Machine) (cpu : CpuNo) (z z2 : Chip) (es : List Entry) (t : Made)
    (x : Model) (h : Held) → StandsFor m z x
    → slice_get m.cpus.items cpu.0 ≡ Some h → EachInOnePlace m.config m.cpus.items m.pool
    → m2.cpus.items ≡ slice_set m.cpus.items cpu.0 t.held
    → CountsAre m2.counts (turned z.lines m.config x (Turns cpu))
    → Followed m.config cpu z z2 m2.memory.bytes m2.side m2.pool es t x
    (turned z.lines m.config x (Turns cpu))
    → StandsFor m2 z2 (turned z.lines m.config x (Turns cpu))
stands_after m m2 cpu z z2 es t x h st got placed put counts f =
    let y : Model = turned z.lines m.config x (Turns cpu) in
    record {
      cpus = ap length put ∙ length-set m.cpus.items cpu.0 t.held ∙ st.cpus
          ∙ sym (bus_len z m.config x cpu);
      each = λ j g there.
          let there2 : slice_get (slice_set m.cpus.items cpu.0 t.held) j ≡ Some g =
          subst (λ q. slice_get q j ≡ Some g) put there in
          elim (cases_eq j cpu.0) [
            | inl same ↦
                let is : g ≡ t.held = get_same m.cpus.items cpu.0 g t.held
                (subst (λ k. slice_get (slice_set m.cpus.items cpu.0 t.held) k ≡ Some g) same there2) in
                subst (λ k. StandsAt g z2 y k) (sym same)
                (subst (λ q. StandsAt q z2 y cpu.0) (sym is) f.at)
            | inr ne ↦
                let was : slice_get m.cpus.items j ≡ Some g =
                sym (get_other m.cpus.items cpu.0 j t.held ne) ∙ there2 in
                other_stands m.config cpu z z2 m2.memory.bytes m2.side m.pool m2.pool es t x
                m.cpus.items h g j f placed st.spares got was (st.each cpu.0 h got) ne (st.each j g was)
          ];
      storage = f.storage;
      side = f.side;
      begun = λ k lt. begun_is z z2 m.config x cpu k (f.leaves.begun k (st.begun k lt));
      spares = f.spares;
      counts = counts;
    }
