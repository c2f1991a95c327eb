use Rattle.std.proofs.Common.{arith, ◌≡◌, ◌∙◌, ap, sym, Some}
use Rattle.std.specs.Str.Parse.{digits_value}
use Rattle.std.specs.Fmt.{decimal}
use Rattle.esa_words.proofs.Digits.{parts_of, not_decimal, too_great, is_number, no_text, text_of}
use Rattle.esa_words.proofs.decimals.read_decimal.Goals as goal

pub returns-then-not-is_decimal-clause-value : goal.returns-then-not-is_decimal-clause-value
returns-then-not-is_decimal-clause-value c = sym (not_decimal c.args.most c.args.t.now (cc))

pub returns-then-not-is_decimal-clause-none : goal.returns-then-not-is_decimal-clause-none
returns-then-not-is_decimal-clause-none c =
    let none = not_decimal c.args.most c.args.t.now (cc) in
    λ n le e. no_text c.args.most n c.args.t.now (omega arith) none le e

pub clipped_value-value-requires : goal.clipped_value-value-requires
clipped_value-value-requires c = (parts_of c.args.t.now (cc)).digits

pub returns-then-value-from-clause-value : goal.returns-then-value-from-clause-value
returns-then-value-from-clause-value c =
    sym (too_great c.args.most c.args.t.now (omega (arith, c.from.ensures)))

pub returns-then-value-from-clause-none : goal.returns-then-value-from-clause-none
returns-then-value-from-clause-none c =
    let none = too_great c.args.most c.args.t.now (omega (arith, c.from.ensures)) in
    λ n le e. no_text c.args.most n c.args.t.now (omega arith) none le e

pub returns-clause-value : goal.returns-clause-value
returns-clause-value c =
    let t = c.args.t.now in
    let v : c.clipped_value-value.result ≡ digits_value 10 t = omega (arith, c.from.ensures) in
    ap (λ x. Some x) v ∙ sym (is_number c.args.most t (cc) (omega (arith, c.from.ensures)))

pub returns-clause-some : goal.returns-clause-some
returns-clause-some c =
    let t = c.args.t.now in
    let v : c.clipped_value-value.result ≡ digits_value 10 t = omega (arith, c.from.ensures) in
    let text = text_of t (cc) (omega (arith, c.from.ensures)) in
    (text ∙ ap decimal (sym v), omega (arith, c.from.ensures))
