-- A hit lies within the operand.
use Rattle.std.proofs.Common.{◌≡◌, ◌<◌, ℕ, List, length, refl, subst, sym}
use Rattle.std.specs.Prelude.{Option, Some, None, IfSome, position}
use Rattle.std.proofs.lemmas.List.Quantifiers.{position-Some}
use Rattle.esa_model.specs.declared.long_operands.Hit.{Hit}
use Rattle.esa_model.specs.Moves.{has_function, hit_at, hit_of}
use Rattle.byte_rows.proofs.table_tests.tested.Goals as goal

hit_at_within : (first functions : List ℕ) (o : Option ℕ)
    → position (has_function functions) first ≡ o
    → IfSome (hit_at first functions o) (λ h. h.at < length first)
hit_at_within first functions None e = tt
hit_at_within first functions (Some i) e = (position-Some (has_function functions) first i 0 e).0

within : (first functions : List ℕ) → IfSome (hit_of first functions) (λ h. h.at < length first)
unfolding hit_of
within first functions =
    hit_at_within first functions (position (has_function functions) first) refl

pub returns-clause-within : goal.returns-clause-within
returns-clause-within c =
    subst (λ (o : Option Hit). IfSome o (λ h. h.at < length c.args.first.now))
    (sym c.translate_test.ensures)
    (within c.args.first.now c.args.functions.now)
