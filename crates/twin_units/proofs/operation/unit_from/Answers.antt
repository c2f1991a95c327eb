use Rattle.twin_units.proofs.operation.unit_from.Goals as goal

pub returns-then-code-ne0-clause-sound : goal.returns-then-code-ne0-clause-sound
returns-then-code-ne0-clause-sound g c = λ m at. c.stop.ensures.sound m c.args.cpu.0
