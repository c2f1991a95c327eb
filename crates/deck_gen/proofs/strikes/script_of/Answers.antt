use Rattle.std.proofs.Common.{arith, ◌++◌, ◌∷◌, [], ◌∙◌, ap}
use Rattle.program_model.specs.Generator.{strike_text}
use Rattle.deck_gen.proofs.Lines.{one_put, all_put}
use Rattle.deck_gen.proofs.strikes.script_of.Goals as goal

pub loop-j-preserved : goal.loop-j-preserved
loop-j-preserved c =
    let s = c.next_strike-strike.ensures in
    let line = ap (λ z. c.loop-j.out.items ++ (strike_text z ++ 10 ∷ [])) s.strike in
    one_put c.args.count c.loop-j.j c.loop-j.draws c.args.draws.now c.next_strike-strike.new.draws
    c.loop-j.out.items c.put_line.new.out.items c.loop-j.invariant c.loop-j-test.true
    (c.in_ok-put_line.ensures ∙ line) s.rest

pub returns : goal.returns
returns c =
    all_put c.args.count c.loop-j.j c.loop-j.draws c.args.draws.now c.loop-j.out.items
    c.loop-j.invariant (omega arith)
