-- Each exit of the turn: a row of the table, what it does to the silicon, and the step of a commit.
use Rattle.std.proofs.Common.{◌≡◌, true, false, List, ℕ, refl, sym, ap, ◌∙◌, subst}
use Rattle.esa_model.specs.Changes.{changed_bytes}
use Rattle.esa_model.specs.Machine.{is_idle}
use Rattle.run_model.specs.declared.faults.Note.{Note}
use Rattle.run_model.specs.declared.logs.What.TheVariants as what
use Rattle.std.proofs.Common.{◌∷◌, ◌++◌, []}
use Rattle.run_model.specs.Cores.{entries_of}
use Rattle.twin_units.specs.Units.{due_beside}
use Rattle.core_states.proofs.Tries.{step_there}
use Rattle.core_turns.specs.declared.held.Held.{Held}
use Rattle.core_turns.specs.declared.held.Held.TheVariants.{Running, Recovering, Lost}
use Rattle.core_turns.specs.declared.outcomes.Outcome.{Outcome}
use Rattle.core_turns.specs.declared.outcomes.Outcome.TheVariants as outcome
use Rattle.core_turns.specs.ChipAfter.{TurnChanges}
use Rattle.core_turns.specs.Made.{made}
use Rattle.core_turns.specs.Journals.{Tells, noted}
use Rattle.core_turns.specs.Meeting.{TurnGoes, why_met}
use Rattle.core_turns.proofs.Chips.{chip_committed, chip_failed, chip_lost}
use Rattle.core_turns.proofs.Goes.{quits_as, goes_idle, goes_committed, goes_failed, goes_lost}
use Rattle.core_turns.proofs.Steps.{gives_committed, carries_as, same_if_none}
use Rattle.core_turns.proofs.running.turn_running.Goals as goal

pub returns-then-is_waiting-clause-goes : goal.returns-then-is_waiting-clause-goes
returns-then-is_waiting-clause-goes g c = λ t.
    let j = noted c.args.stamp c.args.entries.now.items in
    let i = c.args.cpu.0 in
    let z = g.Z.Silicon.seen c.args.z.now in
    let idles : is_idle (due_beside c.args.k.registers i c.args.side.now) ≡ true = cc in
    quits_as (λ (h : Held) (came : Outcome). TurnGoes t j.turn i (Running c.args.k)
    c.args.side.now c.args.pool.now z j.entries came h c.args.pool.now)
    (Running c.args.k) outcome.Idle (made c.end_idle.result c.end_idle.new.written) c.end_idle.ensures.turned
    (goes_idle t j i c.args.k c.args.side.now c.args.pool.now z c.requires.blank idles)

pub returns-in-Committed-clause-goes : goal.returns-in-Committed-clause-goes
returns-in-Committed-clause-goes g c = λ t.
    let j = noted c.args.stamp c.args.entries.now.items in
    let j2 = noted c.args.stamp c.log_notes.new.entries.items in
    let i = c.args.cpu.0 in
    let busy : is_idle (due_beside c.args.k.registers i c.args.side.now) ≡ false = cc in
    let keeps = c.in-Committed.ensures.keeps in
    let tells : Tells j j2 (entries_of c.attempt.new.notes.items) =
    subst (λ (ns : List Note). Tells j j2 (entries_of ns)) c.as_slice.ensures.value
    c.log_notes.ensures in
    goes_committed t j j2 i c.args.k c.committed.result c.args.side.now c.args.pool.now
    (g.Z.Silicon.seen c.args.z.now) c.attempt.new.notes.items c.requires.blank busy
    c.in-Committed.ensures.read tells (c.committed.ensures.core ∙ keeps.0)
    c.committed.ensures.retries

pub returns-in-Committed-clause-chip : goal.returns-in-Committed-clause-chip
returns-in-Committed-clause-chip g c = λ t.
    let i = c.args.cpu.0 in
    let busy : is_idle (due_beside c.args.k.registers i c.args.side.now) ≡ false = cc in
    let keeps = c.in-Committed.ensures.keeps in
    chip_committed t i c.args.k c.in-Committed.k c.committed.result c.args.side.now
    c.args.pool.now c.carry_out.new.r c.attempt.new.notes.items
    (g.Z.Silicon.seen c.args.z.now) (g.Z.Silicon.seen c.attempt.new.z)
    (g.Z.Silicon.seen c.committed.new.z) busy c.in-Committed.ensures.read
    c.in-Committed.ensures.does keeps.0 keeps.1 c.committed.ensures.registers
    c.committed.ensures.words

pub returns-in-Committed-clause-gives : goal.returns-in-Committed-clause-gives
returns-in-Committed-clause-gives g c = λ sure.
    let i = c.args.cpu.0 in
    let p = c.in-Committed.packet in
    let busy : is_idle (due_beside c.args.k.registers i c.args.side.now) ≡ false = cc in
    let keeps = c.in-Committed.ensures.keeps in
    let none = (c.in-Committed.ensures.gives sure.0 sure.1 busy).0 in
    let lent = c.lend_to.ensures.bytes in
    let law = step_there c.args.k.registers i _ _ c.args.side.now p lent
    (c.in-Committed.ensures.steps sure.0 (sure.2.masks (same_if_none _ _ _ none))) in
    let own = c.registers-in-Committed.ensures ∙ keeps.1 in
    gives_committed i c.args.k c.committed.result _ _ p c.args.memory.now.bytes
    c.carry_out.new.self.bytes c.args.side.now c.carry_out.new.side
    c.advance_clock.new.side busy law
    (carries_as i c.args.k.registers c.registers-in-Committed.result.now p
    c.args.memory.now.bytes c.attempt.new.view.bytes c.carry_out.new.self.bytes
    c.args.side.now c.carry_out.new.side own (c.attempt.ensures.view ∙ lent)
    (record {
      storage = c.carry_out.ensures.storage;
      keys = c.carry_out.ensures.keys;
      bus = c.carry_out.ensures.bus;
      console = c.carry_out.ensures.console;
      clock = c.carry_out.ensures.clock;
    })) c.advance_clock.ensures
    (record {
      holds = refl;
      registers = c.committed.ensures.registers ∙ c.carry_out.ensures.registers;
      outcome = refl;
      psw = ap (λ r. r.psw) c.carry_out.ensures.registers;
      changed = c.carry_out.ensures.changed
          ∙ ap (λ (s : List ℕ). changed_bytes s c.carry_out.new.self.bytes)
          (c.attempt.ensures.view ∙ lent);
      console = c.carry_out.ensures.written;
    })

pub returns-in-Failed-clause-goes : goal.returns-in-Failed-clause-goes
returns-in-Failed-clause-goes g c = λ t.
    let j = noted c.args.stamp c.args.entries.now.items in
    let j2 = noted c.args.stamp c.log_failed.new.entries.items in
    let i = c.args.cpu.0 in
    let z = g.Z.Silicon.seen c.args.z.now in
    let busy : is_idle (due_beside c.args.k.registers i c.args.side.now) ≡ false = cc in
    let notes = c.attempt.new.notes.items in
    let tells : Tells j j2
    (entries_of notes ++ what.Fail c.in-Failed.why c.in-Failed.attempt ∷ []) =
    subst (λ (ns : List Note). Tells j j2
    (entries_of ns ++ what.Fail c.in-Failed.why c.in-Failed.attempt ∷ []))
    c.as_slice-in-Failed.ensures.value c.log_failed.ensures in
    quits_as (λ (h : Held) (came : Outcome). TurnGoes t j.turn i (Running c.args.k)
    c.args.side.now c.args.pool.now z j2.entries came h c.args.pool.now)
    (Recovering c.in-Failed.k) (outcome.Failed c.in-Failed.why) (made c.end_without_commit.result c.end_without_commit.new.written)
    c.end_without_commit.ensures
    (goes_failed t j j2 i c.args.k c.in-Failed.k c.args.side.now c.args.pool.now z notes
    c.in-Failed.why c.in-Failed.attempt c.requires.blank busy c.in-Failed.ensures.read tells
    c.in-Failed.ensures.keeps)

pub returns-in-Failed-clause-chip : goal.returns-in-Failed-clause-chip
returns-in-Failed-clause-chip g c = λ t.
    let i = c.args.cpu.0 in
    let z = g.Z.Silicon.seen c.args.z.now in
    let z2 = g.Z.Silicon.seen c.attempt.new.z in
    let busy : is_idle (due_beside c.args.k.registers i c.args.side.now) ≡ false = cc in
    quits_as (λ (h : Held) (came : Outcome). TurnChanges t i (Running c.args.k)
    c.args.side.now c.args.pool.now (why_met z (Running c.args.k) came) h z z2)
    (Recovering c.in-Failed.k) (outcome.Failed c.in-Failed.why) (made c.end_without_commit.result c.end_without_commit.new.written)
    c.end_without_commit.ensures
    (chip_failed t i c.args.k c.args.side.now c.args.pool.now c.in-Failed.why
    (Recovering c.in-Failed.k) c.attempt.new.notes.items z z2 busy c.in-Failed.ensures.read
    c.in-Failed.ensures.does)

pub returns-in-Lost-clause-goes : goal.returns-in-Lost-clause-goes
returns-in-Lost-clause-goes g c = λ t.
    let j = noted c.args.stamp c.args.entries.now.items in
    let j2 = noted c.args.stamp c.log_lost.new.entries.items in
    let i = c.args.cpu.0 in
    let z = g.Z.Silicon.seen c.args.z.now in
    let busy : is_idle (due_beside c.args.k.registers i c.args.side.now) ≡ false = cc in
    let notes = c.attempt.new.notes.items in
    let w = c.in-Lost.word in
    let tells : Tells j j2
    (entries_of notes ++ what.Uncorrectable w ∷ what.Fenced ∷ what.Stop ∷ []) =
    subst (λ (ns : List Note). Tells j j2
    (entries_of ns ++ what.Uncorrectable w ∷ what.Fenced ∷ what.Stop ∷ []))
    c.as_slice-in-Lost.ensures.value c.log_lost.ensures in
    quits_as (λ (h : Held) (came : Outcome). TurnGoes t j.turn i (Running c.args.k)
    c.args.side.now c.args.pool.now z j2.entries came h c.end_stopped.new.pool)
    (Lost c.in-Lost.f.core c.retries-retries.result) outcome.Stopped (made c.end_stopped.result c.end_stopped.new.written)
    c.end_stopped.ensures.turned
    (subst (λ (r : ℕ). TurnGoes t j.turn i (Running c.args.k) c.args.side.now c.args.pool.now z
    j2.entries outcome.Stopped (Lost c.in-Lost.f.core r) c.end_stopped.new.pool)
    (sym c.retries-retries.ensures)
    (goes_lost t j j2 i c.args.k c.in-Lost.f.core c.args.side.now c.args.pool.now
    c.end_stopped.new.pool z notes w c.requires.blank busy c.in-Lost.ensures.read tells
    c.in-Lost.ensures.keeps c.end_stopped.ensures.spares))

pub returns-in-Lost-clause-chip : goal.returns-in-Lost-clause-chip
returns-in-Lost-clause-chip g c = λ t.
    let i = c.args.cpu.0 in
    let z = g.Z.Silicon.seen c.args.z.now in
    let z2 = g.Z.Silicon.seen c.attempt.new.z in
    let busy : is_idle (due_beside c.args.k.registers i c.args.side.now) ≡ false = cc in
    chip_lost t i c.args.k c.args.side.now c.args.pool.now _ _ c.attempt.new.notes.items
    c.in-Lost.word z z2 busy c.in-Lost.ensures.read c.in-Lost.ensures.does
