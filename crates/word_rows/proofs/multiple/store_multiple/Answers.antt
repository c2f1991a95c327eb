-- STM stores as many bytes as its operand has.
use Rattle.std.proofs.Common.{◌*◌, false, true, refl, sym, subst, inr, arith}
use Rattle.std.proofs.lemmas.List.FromFn.{length-range_with_len}
use Rattle.esa_model.specs.Access.{whole}
use Rattle.esa_model.specs.Line.{Effect, one, second_at, register_count}
use Rattle.row_frame.specs.Made.{Covers}
use Rattle.word_rows.proofs.multiple.store_multiple.Goals as goal

pub returns-clause-covers : goal.returns-clause-covers
returns-clause-covers c =
    let count = 4 * register_count c.args.i.now.decoded in
    let len = length-range_with_len 0 count in
    let os = one (whole (second_at c.args.r.now c.args.i.now.decoded) count false true) in
    subst (λ (e : Effect). Covers os e) (sym c.store.ensures)
    (record {
      short = omega (arith, len, c.registers_of.ensures.len);
      store = λ h. refl;
      one = inr refl;
    })
