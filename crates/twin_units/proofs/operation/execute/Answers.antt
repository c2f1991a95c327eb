use Rattle.twin_units.proofs.operation.execute.Goals as goal

pub returns-then-target-ne0-clause-sound : goal.returns-then-target-ne0-clause-sound
returns-then-target-ne0-clause-sound g c = λ m at. c.stop.ensures.sound m c.args.cpu.0

pub returns-then-target-eq-EXECUTE-clause-sound : goal.returns-then-target-eq-EXECUTE-clause-sound
returns-then-target-eq-EXECUTE-clause-sound g c = λ m at. c.stop-then-target-eq-EXECUTE.ensures.sound m c.args.cpu.0
