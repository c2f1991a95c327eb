-- Operands that are too few or too many.
use Rattle.std.proofs.Common.{◌≡◌, ℕ, zero, suc, ◌+◌, ◌<◌, ◌≤◌, Bool, true, false, List, [], ◌∷◌, ◌++◌, length, drop, map, None, refl, ap, ◌∙◌, arith}
use Rattle.std.specs.Borrow.{Bor}
use Rattle.asm_model.specs.declared.operands.Given.{Given}
use Rattle.asm_model.specs.declared.operands.Slot.{Slot}
use Rattle.asm_model.specs.Pieces.{pieces, piece_step, operand_of, is_comma, is_within}
use Rattle.asm_model.specs.Slots.{given}
use Rattle.asm_model.specs.Statement.{using_by}
use Rattle.asm_words.specs.declared.cuts.Rest.{Rest}
use Rattle.asm_words.specs.declared.cuts.Rest.TheVariants.{Nothing, More}
use Rattle.asm_words.specs.Operands.{rest_operands}
use Rattle.std.specs.Prelude.{not, ◌&&◌}

step_some :
    (b : Bool) (held : List ℕ) (x : ℕ) (after : List ℕ → List (List ℕ))
    → ((next : List ℕ) → 0 < length (after next)) → 0 < length (piece_step b held x after)
step_some true held x after h = omega arith
step_some false held x after h = h (held ++ x ∷ [])

pub some_piece : (held text : List ℕ) → 0 < length (pieces held text)
some_piece held [] = omega arith
some_piece held (b ∷ bs) =
    step_some (is_comma b && not (is_within held)) held b (λ next. pieces next bs)
    (λ next. some_piece next bs)

none_given :
    (ps : List (List ℕ)) (g : Given) → 0 < length ps → given [] (map operand_of ps) g ≡ None
none_given [] g h = absurd (omega arith)
none_given (p ∷ ps) g h = refl

past_slots :
    (ss : List Slot) (i : ℕ) (text : List ℕ) (g : Given) → length ss ≤ i
    → given (drop i ss) (map operand_of (pieces [] text)) g ≡ None
past_slots [] zero text g l = none_given (pieces [] text) g (some_piece [] text)
past_slots [] (suc i) text g l = none_given (pieces [] text) g (some_piece [] text)
past_slots (s ∷ ss) zero text g l = absurd (omega arith)
past_slots (s ∷ ss) (suc i) text g l = past_slots ss i text g (omega arith)

no_operand :
    (ss : List Slot) (i : ℕ) (g : Given) → i < length ss → given (drop i ss) [] g ≡ None
no_operand [] i g l = absurd (omega arith)
no_operand (s ∷ ss) zero g l = refl
no_operand (s ∷ ss) (suc i) g l = no_operand ss i g (omega arith)

pub too_few :
    (ss : List Slot) (i : ℕ) (r : Rest) (g : Given) → i < length ss → r ≡ Nothing
    → given (drop i ss) (rest_operands r) g ≡ None
too_few ss i r g l e = ap (λ x. given (drop i ss) (rest_operands x) g) e ∙ no_operand ss i g l

pub too_many :
    (ss : List Slot) (i : ℕ) (r : Rest) (text : Bor (List ℕ)) (g : Given) → length ss ≤ i
    → r ≡ More text → given (drop i ss) (rest_operands r) g ≡ None
too_many ss i r text g l e =
    ap (λ x. given (drop i ss) (rest_operands x) g) e ∙ past_slots ss i text.now g l

three_parts :
    (m r : List ℕ) (ps : List (List ℕ)) → 0 < length ps → using_by (m ∷ r ∷ ps) ≡ None
three_parts m r [] h = absurd (omega arith)
three_parts m r (p ∷ ps) h = refl

pub not_two : (m r text : List ℕ) → using_by (m ∷ r ∷ pieces [] text) ≡ None
not_two m r text = three_parts m r (pieces [] text) (some_piece [] text)
