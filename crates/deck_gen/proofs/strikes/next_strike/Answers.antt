use Rattle.deck_gen.proofs.Lines.{strike_drawn, draws_taken}
use Rattle.deck_gen.proofs.strikes.next_strike.Goals as goal

pub returns-clause-strike : goal.returns-clause-strike
returns-clause-strike c =
    let t = c.two-attempt.ensures in
    strike_drawn c.args.j c.args.draws.now c.two-attempt.new.self c.two-attempt.result.0
    c.two-attempt.result.1 c.from.result c.strike_of.result t.first t.second t.rest c.from.ensures c.strike_of.ensures.strike

pub returns-clause-rest : goal.returns-clause-rest
returns-clause-rest c =
    let t = c.two-attempt.ensures in
    draws_taken c.args.draws.now c.two-attempt.new.self c.two-attempt.result.1
    c.strike_of.new.draws t.second t.rest c.strike_of.ensures.rest
