use Rattle.std.proofs.Common.{◌≡◌, subst}
use Rattle.machine_runs.specs.Views.{view_of}
use Rattle.g5_debugger.specs.Making.{MakesNext}
use Rattle.g5_debugger.proofs.Keeping.{keeps_next, ready_of}
use Rattle.g5_debugger.proofs.session.Session.make.Goals as goal

pub make_next-reached-requires-clause-ready : goal.make_next-reached-requires-clause-ready
make_next-reached-requires-clause-ready g c =
    ready_of c.args.self.now (g.Z.Silicon.seen c.args.z.now) c.requires.begun

pub invariant_of-self : goal.invariant_of-self
invariant_of-self g c =
    let s = c.args.self.now in
    let e = c.make_next-reached.new.engine in
    let same : c.runs.result.now ≡ s.schedule = cc in
    let makes = subst (λ rs. MakesNext c.args.count rs s.reached c.make_next-reached.result
    (view_of s.engine (g.Z.Silicon.seen c.args.z.now) (g.Z.Silicon.tape c.args.z.now))
    (view_of e (g.Z.Silicon.seen c.make_next-reached.new.silicon)
    (g.Z.Silicon.tape c.make_next-reached.new.silicon))) same c.make_next-reached.ensures in
    let k = keeps_next c.args.count s e c.make_next-reached.result
    (g.Z.Silicon.seen c.args.z.now) (g.Z.Silicon.seen c.make_next-reached.new.silicon)
    (g.Z.Silicon.tape c.args.z.now) (g.Z.Silicon.tape c.make_next-reached.new.silicon) makes in
    record {
      fits = k.fits;
      turns = k.turns;
      few = k.few;
      below = k.below;
      calls_a = k.calls_a;
      calls_b = k.calls_b;
      apart = k.apart;
    }
