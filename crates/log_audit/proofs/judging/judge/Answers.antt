use Rattle.std.proofs.Common.{sym, subst}
use Rattle.log_audit.proofs.Walking.{Passing, passed_here, refused_here}
use Rattle.log_audit.proofs.judging.judge.Goals as goal

pub returns-in-Some-refusal : goal.returns-in-Some-refusal
returns-in-Some-refusal c =
    let l = c.loop-entry in
    refused_here c.args.c c.args.last c.args.from.now l.rest.now c.in-Some.after.now l.number
    l.memory l.tally c.in-Some.entry c.refusal-refusal.result c.in-Some-refusal.refusal
    l.invariant c.in-Some.ensures.some c.refusal-refusal.ensures c.in-Some-refusal.is

pub loop-entry-preserved : goal.loop-entry-preserved
loop-entry-preserved c =
    let l = c.loop-entry in
    subst
    (Passing c.args.c c.args.last c.args.from.now c.in-Some.after.now _ c.remember.new.self)
    (sym c.counted-tally.ensures)
    (passed_here c.args.c c.args.last c.args.from.now l.rest.now c.in-Some.after.now l.number
    l.memory c.remember.new.self l.tally c.in-Some.entry c.refusal-refusal.result
    c.requires.cpus l.invariant c.in-Some.ensures.some c.in-Some.ensures.shorter
    c.refusal-refusal.ensures c.in_default-refusal.is c.remember.ensures)
