use Rattle.deck_gen.proofs.Drawn.{InstructionsPut}
use Rattle.deck_gen.proofs.code.push_instructions.Given as goal

abbrev pub invariant-loop : goal.invariant-loop
invariant-loop l =
    InstructionsPut l.count l.counter l.draws l.fn.draws l.code.items l.fn.code.items
