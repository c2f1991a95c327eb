use Rattle.std.proofs.Common.{◌≡◌, ◌+◌, ◌-◌, take, drop, ◌∙◌, ap, arith}
use Rattle.deck_cards.proofs.TextSteps.{taken_is}
use Rattle.deck_cards.proofs.texts.run_of.Goals as goal

pub returns-clause-bytes : goal.returns-clause-bytes
returns-clause-bytes c =
    let e : c.args.at + c.args.held - c.args.at ≡ c.args.held = omega arith in
    ap (λ n. take n (drop c.args.at c.args.bytes.now)) e ∙ taken_is c.args.bytes.now c.args.at c.args.held c.requires
