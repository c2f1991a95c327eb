use Rattle.twin_units.proofs.operation.instruct.Goals as goal

pub returns-in_default-clause-sound : goal.returns-in_default-clause-sound
returns-in_default-clause-sound g c = λ m at. c.stop.ensures.sound m c.args.cpu.0
