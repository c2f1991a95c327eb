use Rattle.g5_debugger.proofs.reading.of_fields.Goals as goal

pub returns-in-One-clause-order : goal.returns-in-One-clause-order
returns-in-One-clause-order c = c.of_one.ensures.order c.args.cpus

pub returns-in-Three-clause-order : goal.returns-in-Three-clause-order
returns-in-Three-clause-order c = c.of_three.ensures.order c.args.cpus
