use Rattle.std.proofs.Common.{arith, ◌∙◌, sym, ap, ◌&&◌, get_or}
use Rattle.std.proofs.lemmas.List.{take_all}
use Rattle.esa_model.specs.Packed.{body, all_pairs, is_pair}
use Rattle.decimal_digits.proofs.Places.{body_more, pairs_more, grows, within}
use Rattle.decimal_digits.proofs.fields.body_of.Goals as goal

pub overflow_mul-value : goal.overflow_mul-value
overflow_mul-value c = let w = within c.loop-b.b-index (omega arith) in omega arith

pub overflow_add-value : goal.overflow_add-value
overflow_add-value c =
    let w = within c.loop-b.b-index (omega arith) in
    let some = c.in_ok-x.ensures.some in
    omega (arith, c.from.ensures, some.2)

pub loop-b-preserved : goal.loop-b-preserved
loop-b-preserved c =
    let bs = c.args.bytes.now in
    let i = c.loop-b.b-index in
    let some = c.in_ok-x.ensures.some in
    let e = body_more bs i (omega arith) in
    let p = pairs_more bs i (omega arith) in
    let g = grows c.loop-b.value c.in_ok-x.x i c.loop-b.invariant.small some.2 in
    let is = some.1 in
    let from = c.from.ensures in
    record {
      pairs = p ∙ ap (λ x. x && is_pair (get_or bs i 0)) c.loop-b.invariant.pairs ∙ some.0;
      value = omega arith;
      small = omega arith;
    }

pub returns-clause-some : goal.returns-clause-some
returns-clause-some c =
    let w = within c.loop-b.b-index (omega arith) in
    let all = take_all c.loop-b.b-index c.args.bytes.now (omega arith) in
    let pairs = ap all_pairs (sym all) ∙ c.loop-b.invariant.pairs in
    (pairs, c.loop-b.invariant.value ∙ ap body all, omega arith)
