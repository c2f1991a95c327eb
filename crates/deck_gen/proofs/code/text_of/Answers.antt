use Rattle.std.proofs.Common.{◌≡◌, ◌++◌, ◌∙◌, ap, length, arith}
use Rattle.program_model.specs.GeneratedDeck.{code}
use Rattle.deck_gen.proofs.Lengths.{text_put, length-code, length-text}
use Rattle.deck_gen.proofs.code.text_of.Goals as goal

pub fill_up-requires : goal.fill_up-requires
fill_up-requires c =
    let p : c.push_code.new.text.items ≡ code c.args.draws.now
    = c.in_ok-push_code.ensures.code
    ∙ ap (λ xs. xs ++ code c.args.draws.now) c.in_ok-text.ensures.items in
    omega (arith, length-code c.args.draws.now, ap length p)

pub returns-clause-text : goal.returns-clause-text
returns-clause-text c =
    let x = c.args.draws.now in
    let p : c.push_code.new.text.items ≡ code x
    = c.in_ok-push_code.ensures.code ∙ ap (λ xs. xs ++ code x) c.in_ok-text.ensures.items in
    text_put x c.push_code.new.text.items c.fill_up.new.text.items c.put.new.out.items p
    c.in_ok-fill_up.ensures
    (c.in_ok-put.ensures ∙ ap (λ xs. c.fill_up.new.text.items ++ xs) c.operands_of.ensures)

pub returns-clause-length : goal.returns-clause-length
returns-clause-length c = ap length (returns-clause-text c) ∙ length-text c.args.draws.now
