-- A retry is a row of the table.
use Rattle.std.proofs.Common.{◌+◌, ◌∷◌, ◌++◌, [], List, ℕ, sym, subst}
use Rattle.run_model.specs.declared.faults.Note.{Note}
use Rattle.run_model.specs.declared.logs.What.TheVariants as what
use Rattle.run_model.specs.Cores.{entries_of}
use Rattle.core_turns.specs.declared.held.Held.{Held}
use Rattle.core_turns.specs.declared.held.Held.TheVariants.{Running, Recovering, Lost}
use Rattle.core_turns.specs.declared.outcomes.Outcome.{Outcome}
use Rattle.core_turns.specs.declared.outcomes.Outcome.TheVariants as outcome
use Rattle.core_turns.specs.Made.{made}
use Rattle.core_turns.specs.Journals.{Tells, noted}
use Rattle.core_turns.specs.Meeting.{TurnGoes}
use Rattle.core_turns.proofs.Goes.{quits_as, goes_recovered, goes_unrecovered}
use Rattle.core_turns.proofs.recovering.recover.Goals as goal

pub returns-in-Running-clause-goes : goal.returns-in-Running-clause-goes
returns-in-Running-clause-goes g c = λ t below.
    let j = noted c.args.stamp c.args.entries.now.items in
    let j2 = noted c.args.stamp c.log_retry.new.entries.items in
    let i = c.args.cpu.0 in
    let z = g.Z.Silicon.seen c.args.z.now in
    let notes = c.recover.new.notes.items in
    let r = c.retries-retries.result in
    let recovers = c.in-Running.ensures.recovers in
    let tells : Tells j j2 (entries_of notes ++ what.Retry (c.args.k.retries + 1) ∷ []) =
    subst (λ (n : ℕ). Tells j j2 (entries_of notes ++ what.Retry (n + 1) ∷ []))
    c.retries-retries.ensures
    (subst (λ (ns : List Note). Tells j j2 (entries_of ns ++ what.Retry (r + 1) ∷ []))
    c.as_slice.ensures.value c.log_retry.ensures) in
    quits_as (λ (h : Held) (came : Outcome). TurnGoes t j.turn i (Recovering c.args.k)
    c.args.side.now c.args.pool.now z j2.entries came h c.args.pool.now)
    (Running c.in-Running.k) (outcome.Retried (r + 1)) (made c.end_without_commit.result c.end_without_commit.new.written)
    c.end_without_commit.ensures
    (subst (λ (n : ℕ). TurnGoes t j.turn i (Recovering c.args.k) c.args.side.now
    c.args.pool.now z j2.entries (outcome.Retried (n + 1)) (Running c.in-Running.k)
    c.args.pool.now) (sym c.retries-retries.ensures)
    (goes_recovered t j j2 i c.args.k c.in-Running.k c.args.side.now c.args.pool.now z notes
    c.requires.blank below c.in-Running.ensures.read tells recovers.0 recovers.1))

pub returns-in-Lost-clause-goes : goal.returns-in-Lost-clause-goes
returns-in-Lost-clause-goes g c = λ t below.
    let j = noted c.args.stamp c.args.entries.now.items in
    let j2 = noted c.args.stamp c.log_lost.new.entries.items in
    let i = c.args.cpu.0 in
    let z = g.Z.Silicon.seen c.args.z.now in
    let notes = c.recover.new.notes.items in
    let w = c.in-Lost.word in
    let tells : Tells j j2
    (entries_of notes ++ what.Uncorrectable w ∷ what.Fenced ∷ what.Stop ∷ []) =
    subst (λ (ns : List Note). Tells j j2
    (entries_of ns ++ what.Uncorrectable w ∷ what.Fenced ∷ what.Stop ∷ []))
    c.as_slice-in-Lost.ensures.value c.log_lost.ensures in
    quits_as (λ (h : Held) (came : Outcome). TurnGoes t j.turn i (Recovering c.args.k)
    c.args.side.now c.args.pool.now z j2.entries came h c.end_stopped.new.pool)
    (Lost c.in-Lost.f.core c.retries-retries.result) outcome.Stopped (made c.end_stopped.result c.end_stopped.new.written)
    c.end_stopped.ensures.turned
    (subst (λ (r : ℕ). TurnGoes t j.turn i (Recovering c.args.k) c.args.side.now
    c.args.pool.now z j2.entries outcome.Stopped (Lost c.in-Lost.f.core r)
    c.end_stopped.new.pool) (sym c.retries-retries.ensures)
    (goes_unrecovered t j j2 i c.args.k c.in-Lost.f.core c.args.side.now c.args.pool.now
    c.end_stopped.new.pool z notes w c.requires.blank below c.in-Lost.ensures.read tells
    c.in-Lost.ensures.recovers c.end_stopped.ensures.spares))
