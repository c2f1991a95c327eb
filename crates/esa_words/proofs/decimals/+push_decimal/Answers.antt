use Rattle.std.proofs.Common.{arith, ◌≡◌, ◌<◌, ◌+◌, ◌/◌, ◌%◌, ◌∷◌, [], ◌++◌, ℕ, length, sym, ◌∙◌, ap, append_assoc, length-append}
use Rattle.std.specs.Fmt.{decimal}
use Rattle.arrayvec.specs.ArrayVec.{array_vec_len}
use Rattle.std.proofs.lemmas.Fmt.{decimal_nonempty, decimal_digit, decimal_step}
use Rattle.esa_words.proofs.Digits.{length_step}
use Rattle.esa_words.proofs.decimals.+push_decimal.Goals as goal

pub push_decimal-requires : goal.push_decimal-requires
push_decimal-requires t c =
    let l = length_step c.args.n (omega arith) (omega arith) in
    (omega arith, omega arith)

pub push-requires : goal.push-requires
push-requires t c =
    let s = decimal_nonempty c.args.n (omega arith) in
    let room : array_vec_len c.args.out.now < 20 = omega arith in
    (omega arith, room)

pub returns-then-n-lt10 : goal.returns-then-n-lt10
returns-then-n-lt10 t c =
    c.push.ensures.items
    ∙ ap (λ x. c.args.out.now.items ++ x) (sym (decimal_digit c.args.n (omega arith)))

pub push-requires-2 : goal.push-requires-2
push-requires-2 t c =
    let l = length_step c.args.n (omega arith) (omega arith) in
    let old = c.args.out.now.items in
    let more = old ++ decimal (c.args.n / 10) in
    let e : length c.push_decimal.new.out.items ≡ length more = ap length c.push_decimal.ensures in
    let room : array_vec_len c.push_decimal.new.out < 20 = omega (arith, length-append {A = ℕ}) in
    (omega arith, room)

pub returns : goal.returns
returns t c =
    let n = c.args.n in
    let old = c.args.out.now.items in
    c.push-2.ensures.items ∙ ap (λ x. x ++ (48 + n % 10) ∷ []) c.push_decimal.ensures
    ∙ append_assoc old (decimal (n / 10)) ((48 + n % 10) ∷ [])
    ∙ ap (λ x. old ++ x) (sym (decimal_step n (omega arith) (omega arith)))
