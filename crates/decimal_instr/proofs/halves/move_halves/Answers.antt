use Rattle.std.proofs.Common.{◌≡◌, ◌∙◌, ◌<◌, ◌≤◌, ◌+◌, ◌-◌, ◌%◌, ◌++◌, [], ◌∷◌, ℕ, ap, sym, add-one, arith, length, get_or}
use Rattle.std.specs.Prelude.{map}
use Rattle.std.specs.List.{range_with_len}
use Rattle.std.proofs.Math.Seq.{take-suc-set}
use Rattle.std.proofs.lemmas.List.{take_all}
use Rattle.std.proofs.lemmas.List.FromFn.{map-range_with_len_more}
use Rattle.esa_model.specs.Halves.{moved_byte, moved_halves}
use Rattle.decimal_instr.proofs.halves.move_halves.Goals as goal

pub loop-k-preserved : goal.loop-k-preserved
loop-k-preserved c =
    let old = c.args.first.now in
    let n : ℕ = length old - 1 in
    let f = λ (k : ℕ). moved_byte c.args.op c.args.second.now (get_or old n 0 % 16) (n - k) in
    let first = c.loop-k.first in
    let i = c.loop-k.k in
    let b = c.byte_of.result in
    let lt : i < length first = omega arith in
    let none : 0 + i ≡ i = omega arith in
    rw add-one (take-suc-set first i b lt)
    ∙ ap (λ z. z ++ b ∷ []) c.loop-k.invariant
    ∙ ap (λ x. map f (range_with_len 0 i) ++ x ∷ []) c.byte_of.ensures
    ∙ sym (map-range_with_len_more f 0 i i none)

pub returns : goal.returns
unfolding moved_halves
returns c =
    let old = c.args.first.now in
    let n : ℕ = length old - 1 in
    let f = λ (k : ℕ). moved_byte c.args.op c.args.second.now (get_or old n 0 % 16) (n - k) in
    let end : c.loop-k.k ≡ length c.args.first.now = omega arith in
    let all : length c.loop-k.first ≤ c.loop-k.k = omega arith in
    sym (take_all c.loop-k.k c.loop-k.first all)
    ∙ c.loop-k.invariant
    ∙ ap (λ n. map f (range_with_len 0 n)) end
