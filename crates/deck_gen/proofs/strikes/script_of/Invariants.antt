use Rattle.deck_gen.proofs.Lines.{StrikesPut}
use Rattle.deck_gen.proofs.strikes.script_of.Given as goal

abbrev pub invariant-loop-j : goal.invariant-loop-j
invariant-loop-j l = StrikesPut l.count l.j l.draws l.fn.draws l.out.items
