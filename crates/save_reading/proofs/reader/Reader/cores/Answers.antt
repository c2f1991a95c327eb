use Rattle.std.proofs.Common.{arith, refl}
use Rattle.save_model.specs.Parts.{core_of, core_widths}
use Rattle.save_reading.proofs.Numbering.{placed_start, placed_next, placed_parts, placed_rest}
use Rattle.save_reading.proofs.reader.Reader.cores.Goals as goal

pub cores-init : goal.cores-init
cores-init c = placed_start core_of core_widths 656 16 _ c.args.self.now.rest.now refl

pub cores-preserved : goal.cores-preserved
cores-preserved c = placed_next core_of core_widths 656 16 c.cores.k c.cores.cores c.args.self.now.rest.now c.cores.self.rest.now c.core.new.self.rest.now c.core.result (omega arith) c.cores.invariant c.core.ensures.value c.core.ensures.rest c.core.ensures.left

pub returns-clause-value : goal.returns-clause-value
returns-clause-value c = placed_parts core_of core_widths 656 16 c.cores.k c.cores.cores c.args.self.now.rest.now c.cores.self.rest.now (omega arith) c.cores.invariant

pub returns-clause-rest : goal.returns-clause-rest
returns-clause-rest c = placed_rest core_of core_widths 656 16 c.cores.k c.cores.cores c.args.self.now.rest.now c.cores.self.rest.now (omega arith) c.cores.invariant
