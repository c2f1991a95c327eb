use Rattle.std.proofs.Common.{◌≡◌, ◌-◌, ◌*◌, ◌%◌, ◌++◌, sym, ◌∙◌, ap, arith}
use Rattle.program_model.specs.Draws.{draw}
use Rattle.program_model.specs.GeneratedDeck.{instruction}
use Rattle.deck_gen.proofs.Drawn.{one_put, after_none}
use Rattle.deck_gen.proofs.code.push_instructions.Goals as goal

pub loop-preserved : goal.loop-preserved
loop-preserved c =
    let s = c.three-sort.ensures in
    let x = c.loop.draws in
    let here : instruction (c.three-sort.result.0 % 8) c.three-sort.result.1 c.three-sort.result.2
    ≡ instruction (draw 1 x % 8) (draw 2 x) (draw 3 x) = (cc) in
    let put : c.push_instruction.new.code.items
    ≡ c.loop.code.items ++ instruction (c.three-sort.result.0 % 8) c.three-sort.result.1 c.three-sort.result.2
    = c.in_ok-push_instruction.ensures in
    one_put c.args.count c.loop.counter x c.args.draws.now c.three-sort.new.self
    c.loop.code.items c.args.code.now.items c.push_instruction.new.code.items c.loop.invariant
    c.loop-test.true (put ∙ ap (λ i. c.loop.code.items ++ i) here) s.rest

pub returns-clause-rest : goal.returns-clause-rest
returns-clause-rest c =
    let e : 3 * (c.args.count - c.loop.counter) ≡ 0 = omega arith in
    sym (after_none (3 * (c.args.count - c.loop.counter)) c.loop.draws e) ∙ c.loop.invariant.rest
