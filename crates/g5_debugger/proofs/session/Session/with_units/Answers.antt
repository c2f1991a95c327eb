use Rattle.std.proofs.Common.{refl}
use Rattle.g5_debugger.specs.declared.making.Reached.{Reached}
use Rattle.g5_debugger.proofs.Keeping.{keeps_first}
use Rattle.g5_debugger.proofs.session.Session.with_units.Goals as goal

pub invariant_of-result : goal.invariant_of-result
invariant_of-result c =
    let first : Reached = record { place = record { run = 0; done = 0 }; made = c.none_made.result } in
    let k = keeps_first c.args.engine c.args.schedule first c.requires.unused c.requires.fits
    c.requires.few c.none_made.ensures refl in
    record {
      fits = k.fits;
      turns = k.turns;
      few = k.few;
      below = k.below;
      calls_a = k.calls_a;
      calls_b = k.calls_b;
      apart = k.apart;
    }
