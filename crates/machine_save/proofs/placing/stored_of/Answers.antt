use Rattle.std.proofs.Common.{arith, refl}
use Rattle.machine_save.proofs.Filling.{filling_start, filling_next, filling_end}
use Rattle.machine_save.proofs.placing.stored_of.Goals as goal

pub words-init : goal.words-init
words-init g c = filling_start ((g.Z.Silicon.seen c.args.z.now).word c.args.core.0) 40 _ refl

pub words-preserved : goal.words-preserved
words-preserved g c = filling_next ((g.Z.Silicon.seen c.args.z.now).word c.args.core.0) 40 c.words.k c.words.stored c.get_word.result c.words-test.true c.words.invariant c.get_word.ensures

pub returns : goal.returns
returns g c = filling_end ((g.Z.Silicon.seen c.args.z.now).word c.args.core.0) 40 c.words.k c.words.stored (omega arith) (omega arith) c.words.invariant
