-- A turn by what is held.
use Rattle.std.proofs.Common.{subst, sym}
use Rattle.core_turns.specs.declared.held.Held.{Held}
use Rattle.core_turns.specs.declared.held.Held.TheVariants.{Lost}
use Rattle.core_turns.specs.declared.outcomes.Outcome.{Outcome}
use Rattle.core_turns.specs.declared.outcomes.Outcome.TheVariants as outcome
use Rattle.core_turns.specs.Giving.{TurnGives}
use Rattle.core_turns.specs.Made.{made}
use Rattle.core_turns.specs.Journals.{IsBlank, noted}
use Rattle.core_turns.specs.Held.{core_of}
use Rattle.core_turns.specs.Meeting.{TurnGoes}
use Rattle.core_turns.proofs.Goes.{quits_as, goes_gone}
use Rattle.core_turns.proofs.turning.turn_in_mode.Goals as goal

pub returns-in-Recovering-clause-gives : goal.returns-in-Recovering-clause-gives
returns-in-Recovering-clause-gives g c = λ sure.
    subst (λ (h : Held). TurnGives c.args.cpu.0 h c.args.memory.now.bytes c.args.side.now
    c.turn_recovering.new.entries.items (made c.turn_recovering.result c.turn_recovering.new.written)
    c.args.memory.now.bytes c.turn_recovering.new.side) (sym c.in-Recovering.is)
    (c.turn_recovering.ensures.gives c.args.memory.now.bytes)

pub returns-in-Lost-clause-goes : goal.returns-in-Lost-clause-goes
returns-in-Lost-clause-goes g c =
    let j = noted c.args.stamp c.args.entries.now.items in
    let i = c.args.cpu.0 in
    let z = g.Z.Silicon.seen c.args.z.now in
    let x = c.in-Lost.core in
    let r = c.in-Lost.retries in
    subst (λ (h : Held). TurnGoes c.args.threshold j.turn i h c.args.side.now c.args.pool.now z
    j.entries c.end_idle.result.outcome c.end_idle.result.held c.args.pool.now)
    (sym c.in-Lost.is)
    (quits_as (λ (h : Held) (came : Outcome). TurnGoes c.args.threshold j.turn i (Lost x r)
    c.args.side.now c.args.pool.now z j.entries came h c.args.pool.now)
    (Lost x r) outcome.Idle (made c.end_idle.result c.end_idle.new.written) c.end_idle.ensures.turned
    (goes_gone c.args.threshold j i x r c.args.side.now c.args.pool.now z
    (subst (λ (h : Held). IsBlank j i (core_of h)) c.in-Lost.is c.requires.blank)))
