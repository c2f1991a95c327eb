-- A transfer is a row of the table.
use Rattle.std.proofs.Common.{◌+◌, ◌≤◌, ◌∷◌, ◌++◌, [], List, ℕ, sym, ap, ◌∙◌, subst, arith}
use Rattle.run_model.specs.declared.faults.CoreNo.{CoreNo}
use Rattle.run_model.specs.declared.faults.Note.{Note}
use Rattle.run_model.specs.declared.logs.What.TheVariants as what
use Rattle.run_model.specs.Cores.{entries_of}
use Rattle.core_turns.specs.declared.held.Held.{Held}
use Rattle.core_turns.specs.declared.held.Held.TheVariants.{Running, Recovering, Lost}
use Rattle.core_turns.specs.declared.outcomes.Outcome.{Outcome}
use Rattle.core_turns.specs.declared.outcomes.Outcome.TheVariants as outcome
use Rattle.core_turns.specs.Held.{CorePool}
use Rattle.core_turns.specs.Made.{made}
use Rattle.core_turns.specs.Journals.{Tells, noted}
use Rattle.core_turns.specs.Meeting.{TurnGoes}
use Rattle.core_turns.specs.Places.{on, in_pool}
use Rattle.core_turns.proofs.Chips.{chip_no_spare, chip_handed}
use Rattle.core_turns.proofs.Goes.{quits_as, goes_no_spare, goes_handed, goes_not_handed}
use Rattle.core_turns.proofs.recovering.transfer.Goals as goal

-- a pool holds a number at most once
pooled_once : (c : ℕ) (p : CorePool) → ((n : ℕ) → on c n + in_pool n p ≤ 1) → (n : ℕ)
    → in_pool n p ≤ 1
pooled_once c p h n = let a = h n in omega (arith, a)

pub returns-in-None-clause-goes : goal.returns-in-None-clause-goes
returns-in-None-clause-goes g c = λ t past.
    let j = noted c.args.stamp c.args.entries.now.items in
    let j2 = noted c.args.stamp c.log_no_spare.new.entries.items in
    let i = c.args.cpu.0 in
    let z = g.Z.Silicon.seen c.args.z.now in
    quits_as (λ (h : Held) (came : Outcome). TurnGoes t j.turn i (Recovering c.args.k)
    c.args.side.now c.args.pool.now z j2.entries came h c.end_stopped.new.pool)
    (Lost c.give_up.result.core c.retries-retries.result) outcome.Stopped (made c.end_stopped.result c.end_stopped.new.written)
    c.end_stopped.ensures.turned
    (subst (λ (r : ℕ). TurnGoes t j.turn i (Recovering c.args.k) c.args.side.now
    c.args.pool.now z j2.entries outcome.Stopped (Lost c.give_up.result.core r)
    c.end_stopped.new.pool) (sym c.retries-retries.ensures)
    (goes_no_spare t j j2 i c.args.k c.give_up.result.core c.args.side.now c.args.pool.now
    c.end_stopped.new.pool z c.requires.blank past c.in-None.ensures.lowest
    c.log_no_spare.ensures c.give_up.ensures
    (c.end_stopped.ensures.spares ∙ ap (λ (p : CorePool). p.spares) c.in-None.ensures.taken)))

pub returns-in-None-clause-chip : goal.returns-in-None-clause-chip
returns-in-None-clause-chip g c = λ t past.
    chip_no_spare t c.args.cpu.0 c.args.k c.args.side.now c.args.pool.now _ _
    (g.Z.Silicon.seen c.args.z.now) past c.in-None.ensures.lowest

pub returns-in-Running-clause-goes : goal.returns-in-Running-clause-goes
returns-in-Running-clause-goes g c = λ t past.
    let j = noted c.args.stamp c.args.entries.now.items in
    let j2 = noted c.args.stamp c.log_spared.new.entries.items in
    let i = c.args.cpu.0 in
    let z = g.Z.Silicon.seen c.args.z.now in
    let notes = c.hand_over.new.notes.items in
    let x = c.in-Some.spare in
    let n = c.core-number.result in
    let hands = c.in-Running.ensures.hands in
    let tells : Tells j j2 (what.Fenced ∷ (entries_of notes ++ what.Spared x.core ∷ [])) =
    subst (λ (d : CoreNo). Tells j j2 (what.Fenced ∷ (entries_of notes ++ what.Spared d ∷ [])))
    c.core-number.ensures
    (subst (λ (ns : List Note). Tells j j2
    (what.Fenced ∷ (entries_of ns ++ what.Spared n ∷ []))) c.as_slice.ensures.value
    c.log_spared.ensures) in
    quits_as (λ (h : Held) (came : Outcome). TurnGoes t j.turn i (Recovering c.args.k)
    c.args.side.now c.args.pool.now z j2.entries came h c.leave.new.pool)
    (Running c.in-Running.k) (outcome.Spared n) (made c.end_without_commit.result c.end_without_commit.new.written)
    c.end_without_commit.ensures
    (subst (λ (d : CoreNo). TurnGoes t j.turn i (Recovering c.args.k) c.args.side.now
    c.args.pool.now z j2.entries (outcome.Spared d) (Running c.in-Running.k)
    c.leave.new.pool) (sym c.core-number.ensures)
    (goes_handed t j j2 i c.args.k c.in-Running.k x c.args.side.now c.args.pool.now
    c.leave.new.pool z notes c.requires.blank past c.in-Some.ensures.lowest
    c.in-Running.ensures.read tells hands.0 hands.1
    (c.in-Some.ensures.taken ∙ ap (λ xs. x ∷ xs) (sym c.leave.ensures.spares))
    (pooled_once c.args.k.core.0 c.args.pool.now c.requires.once)))

pub returns-in-Running-clause-chip : goal.returns-in-Running-clause-chip
returns-in-Running-clause-chip g c = λ t past.
    let hands = c.in-Running.ensures.hands in
    chip_handed t c.args.cpu.0 c.args.k c.in-Some.spare.core.0 c.args.side.now c.args.pool.now
    _ _ c.hand_over.new.notes.items (g.Z.Silicon.seen c.args.z.now)
    (g.Z.Silicon.seen c.hand_over.new.z) past c.in-Some.ensures.lowest
    c.in-Running.ensures.read hands.4

pub returns-in-Lost-clause-goes : goal.returns-in-Lost-clause-goes
returns-in-Lost-clause-goes g c = λ t past.
    let j = noted c.args.stamp c.args.entries.now.items in
    let j2 = noted c.args.stamp c.log_not_handed.new.entries.items in
    let i = c.args.cpu.0 in
    let z = g.Z.Silicon.seen c.args.z.now in
    let notes = c.hand_over.new.notes.items in
    let x = c.in-Some.spare in
    let y = c.in-Lost.spare in
    let w = c.in-Lost.word in
    let hands = c.in-Lost.ensures.hands in
    let tells : Tells j j2
    (what.Fenced ∷ (entries_of notes ++ what.Uncorrectable w ∷ what.Stop ∷ [])) =
    subst (λ (ns : List Note). Tells j j2
    (what.Fenced ∷ (entries_of ns ++ what.Uncorrectable w ∷ what.Stop ∷ [])))
    c.as_slice-in-Lost.ensures.value c.log_not_handed.ensures in
    quits_as (λ (h : Held) (came : Outcome). TurnGoes t j.turn i (Recovering c.args.k)
    c.args.side.now c.args.pool.now z j2.entries came h c.end_stopped-in-Lost.new.pool)
    (Lost c.in-Lost.f.core c.retries-retries.result) outcome.Stopped
    (made c.end_stopped-in-Lost.result c.end_stopped-in-Lost.new.written) c.end_stopped-in-Lost.ensures.turned
    (subst (λ (r : ℕ). TurnGoes t j.turn i (Recovering c.args.k) c.args.side.now
    c.args.pool.now z j2.entries outcome.Stopped (Lost c.in-Lost.f.core r)
    c.end_stopped-in-Lost.new.pool) (sym c.retries-retries.ensures)
    (goes_not_handed t j j2 i c.args.k c.in-Lost.f.core x y c.args.side.now c.args.pool.now
    c.take_spare.new.pool c.end_stopped-in-Lost.new.pool z notes w c.requires.blank past
    c.in-Some.ensures.lowest c.in-Lost.ensures.read tells hands.0 c.in-Some.ensures.taken
    hands.1 (c.end_stopped-in-Lost.ensures.spares
    ∙ ap (λ (p : CorePool). p.spares) c.put_spare_back.ensures.spares)))
