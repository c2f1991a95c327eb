use Rattle.save_model.specs.Parts.{cpu_of, cpu_widths}
use Rattle.save_reading.proofs.Numbering.{Parted}
use Rattle.save_reading.proofs.reader.Reader.cpus.Given as goal

abbrev pub invariant-cpus : goal.invariant-cpus
invariant-cpus l = Parted cpu_of cpu_widths 336 l.k l.list.items l.initial.self.rest.now l.self.rest.now
