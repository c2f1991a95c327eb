use Rattle.std.proofs.Common.{arith, rules, ◌∙◌, ap, sym, ◌≡◌, ◌+◌, ◌-◌, ◌*◌, ◌/◌, ◌%◌, ◌++◌, [], ◌∷◌, ℕ, length, nat_le, not, eqb}
use Rattle.esa_model.specs.Packed.{pairs, written, sign_code}
use Rattle.decimal_digits.proofs.Places.{field_is, field_limit, lost_is}
use Rattle.decimal_digits.proofs.fields.pack.Goals as goal
use Rattle.decimal_digits.proofs.fields.pack.Goals.{then-d, else-d}

pub returns-clause-field : goal.returns-clause-field
unfolding written
returns-clause-field c =
    let old = c.args.into.now in
    let n : ℕ = length old - 1 in
    let m = c.args.d.now.magnitude in
    let sign : c.if-d.sign ≡ sign_code c.args.d.now.negative =
    elim c.if-d.branch [ then-d w ↦ search rules | else-d w ↦ search rules ] in
    let filled = c.fill.ensures in
    let last : ℕ = m % 10 * 16 + c.if-d.sign in
    field_is c.fill.new.into old (pairs n (m / 10)) n last (omega arith) filled.front filled.kept
    ∙ ap (λ z. pairs n (m / 10) ++ (m % 10 * 16 + z) ∷ []) sign

pub returns-clause-lost : goal.returns-clause-lost
returns-clause-lost c =
    let n : ℕ = length c.args.into.now - 1 in
    let m = c.args.d.now.magnitude in
    let limit = field_limit (length c.args.into.now) n (omega arith) in
    ap (λ x. not (eqb x 0)) c.fill.ensures.left ∙ lost_is m n ∙ ap (λ x. nat_le x m) (sym limit)
