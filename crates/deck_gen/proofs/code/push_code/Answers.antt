use Rattle.std.proofs.Common.{◌≡◌, ◌++◌, ◌∙◌, ap}
use Rattle.program_model.specs.GeneratedDeck.{instructions}
use Rattle.deck_gen.proofs.Drawn.{code_put, start, back}
use Rattle.deck_gen.proofs.code.push_code.Goals as goal

pub returns-clause-code : goal.returns-clause-code
returns-clause-code c =
    let out = c.args.text.now.items in
    let a : c.put.new.out.items ≡ out ++ start = c.in_ok-put.ensures in
    let drawn = instructions 64 c.args.draws.now in
    let b : c.push_instructions.new.code.items ≡ c.put.new.out.items ++ drawn
    = c.in_ok-push_instructions.ensures.code in
    let d : c.put-2.new.out.items ≡ c.push_instructions.new.code.items ++ back
    = c.in_ok-put-2.ensures in
    d ∙ ap (λ xs. xs ++ back) (b ∙ ap (λ xs. xs ++ drawn) a) ∙ code_put out c.args.draws.now
