use Rattle.save_model.specs.Parts.{cpu_of, cpu_widths}
use Rattle.save_reading.proofs.Numbering.{parted_next}
use Rattle.save_reading.proofs.reader.Reader.cpus.Goals as goal

pub cpus-preserved : goal.cpus-preserved
cpus-preserved c = parted_next cpu_of cpu_widths 336 c.cpus.k c.cpus.list.items c.push.new.self.items c.args.self.now.rest.now c.cpus.self.rest.now c.cpu-cpu.new.self.rest.now c.cpu-cpu.result c.cpus.invariant c.cpu-cpu.ensures.value c.cpu-cpu.ensures.rest c.cpu-cpu.ensures.left c.in_ok-push.ensures.items
