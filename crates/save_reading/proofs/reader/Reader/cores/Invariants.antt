use Rattle.save_model.specs.Parts.{core_of, core_widths}
use Rattle.save_reading.proofs.Numbering.{Placed}
use Rattle.save_reading.proofs.reader.Reader.cores.Given as goal

abbrev pub invariant-cores : goal.invariant-cores
invariant-cores l = Placed core_of core_widths 656 16 l.k l.cores l.initial.self.rest.now l.self.rest.now
