use Rattle.std.proofs.Common.{rules, ◌≡◌, ◌∙◌, ◌<◌, ◌^◌, IfSome, true, length, refl, sym, subst}
use Rattle.std.specs.List.{list_all}
use Rattle.program_model.specs.Addresses.{address, is_capital_digit}
use Rattle.g5_words.proofs.Hexadecimals.{six_read, six_below}
use Rattle.g5_words.proofs.numbers.address.Goals as goal

pub returns-then-has_capital_digits-clause-value :
    goal.returns-then-has_capital_digits-clause-value
unfolding address
returns-then-has_capital_digits-clause-value c =
    let text = c.args.text.now in
    let six : length text ≡ 6 = search rules in
    let capital : list_all is_capital_digit text ≡ true = search rules in
    c.ok.ensures.value
    ∙ six_read text c.from_str_radix.result six capital c.from_str_radix.ensures.value
    ∙ rw (six, capital) refl

pub returns-then-has_capital_digits-clause-range :
    goal.returns-then-has_capital_digits-clause-range
returns-then-has_capital_digits-clause-range c =
    let text = c.args.text.now in
    let six : length text ≡ 6 = search rules in
    let capital : list_all is_capital_digit text ≡ true = search rules in
    let read = six_read text c.from_str_radix.result six capital c.from_str_radix.ensures.value in
    subst (λ r. IfSome r (λ n. n < 2 ^ 24)) (sym (c.ok.ensures.value ∙ read))
    (six_below text six capital)
