use Rattle.core_states.proofs.Tries.{steps_found, store_found, due_there, step_there}
use Rattle.core_states.proofs.tried.finish.Goals as goal

pub returns-then-passes_store-clause-steps : goal.returns-then-passes_store-clause-steps
returns-then-passes_store-clause-steps g c = λ exact.
    steps_found (g.Z.Silicon.seen c.args.z.now) (g.Z.Silicon.seen c.passes_fetch.new.z) c.args.core.0 _
    (g.P.ResultUnit.seen c.both.new.a).last (g.Q.ResultUnit.seen c.both.new.b).last c.in-Some.p
    c.passes_fetch.ensures.stays c.in-Some.ensures.passed
    (step_there c.args.r.now c.args.cpu.0 _ _ c.args.side.now _ c.fetch_latch-latch.ensures.view
    (c.in-Some.ensures.step_a exact))

pub returns-else-passes_store-clause-exact : goal.returns-else-passes_store-clause-exact
returns-else-passes_store-clause-exact g c = λ exact_a exact_b due.
    let at = c.fetch_latch-latch.ensures.view in
    store_found (g.Z.Silicon.seen c.args.z.now) (g.Z.Silicon.seen c.passes_fetch.new.z) (g.Z.Silicon.seen c.both.new.z) c.args.core.0
    (g.P.ResultUnit.seen c.both.new.a).last (g.Q.ResultUnit.seen c.both.new.b).last c.in-Some.p _
    c.passes_fetch.result c.passes_store.result c.passes_fetch.ensures.stays c.both.ensures.stays
    c.passes_fetch.ensures.unstruck c.if-not-passes_fetch.false
    c.passes_store.ensures.unstruck c.if-passes_store.false c.in-Some.ensures.passed
    (due_there c.args.r.now c.args.cpu.0 _ _ c.args.side.now _ at (c.in-Some.ensures.due_a exact_a due))
    (due_there c.args.r.now c.args.cpu.0 _ _ c.args.side.now _ at (c.in-Some.ensures.due_b exact_b due))
