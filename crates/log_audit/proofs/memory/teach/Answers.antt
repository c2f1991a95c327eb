use Rattle.std.proofs.Common.{ap, arith, ◌∙◌}
use Rattle.log_audit.specs.Remembered.{learn}
use Rattle.log_audit.proofs.Keeping.{taught}
use Rattle.log_audit.proofs.memory.teach.Goals as goal

pub returns-then-cpu-lt8 : goal.returns-then-cpu-lt8
returns-then-cpu-lt8 c = λ i k lt h.
    taught c.args.cpus.now c.args.e.cpu.0 i c.learn.result k _
    (learn c.args.e.what c.args.e.turn k) (omega (arith, c.requires, c.if-cpu-lt8.true))
    (omega (arith, c.requires, lt)) h
    (λ is same. c.learn.ensures ∙ ap (learn c.args.e.what c.args.e.turn) same)
