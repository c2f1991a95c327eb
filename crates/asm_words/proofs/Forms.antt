-- Operands by their parts.
use Rattle.std.proofs.Common.{◌≡◌, ℕ, ◌-◌, ◌<◌, ◌==◌, true, false, cond, List, [], ◌∷◌, length, take, drop, get_or, refl, sym, ◌∙◌, ap, arith}
use Rattle.std.specs.List.{slice_split}
use Rattle.asm_model.specs.Pieces.{simple, inner, by_parens, is_comma, closed, signed, negative, plain}
use Rattle.asm_model.specs.Words.{number_of}
use Rattle.run_model.specs.Numbers.{is_decimal}
use Rattle.asm_model.specs.declared.operands.Operand.{Operand}
use Rattle.asm_model.specs.declared.operands.Operand.TheVariants.{Bad}

pub simple_several : (ps : List (List ℕ)) → 2 < length ps → simple ps ≡ Bad
simple_several [] h = absurd (omega arith)
simple_several (a ∷ []) h = absurd (omega arith)
simple_several (a ∷ b ∷ []) h = absurd (omega arith)
simple_several (a ∷ b ∷ c ∷ more) h = refl

pub inner_several : (d : List ℕ) (ps : List (List ℕ)) → 2 < length ps → inner d ps ≡ Bad
inner_several d [] h = absurd (omega arith)
inner_several d (a ∷ []) h = absurd (omega arith)
inner_several d (a ∷ b ∷ []) h = absurd (omega arith)
inner_several d (a ∷ b ∷ c ∷ more) h = refl

pub parens_several : (ps : List (List ℕ)) → 2 < length ps → by_parens ps ≡ Bad
parens_several [] h = absurd (omega arith)
parens_several (a ∷ []) h = absurd (omega arith)
parens_several (a ∷ b ∷ []) h = absurd (omega arith)
parens_several (a ∷ b ∷ c ∷ more) h = refl

pub none_at : (w : List ℕ) (k : ℕ) → length w ≡ 0 → get_or w k 0 ≡ 0
none_at [] k h = refl
none_at (x ∷ w) k h = absurd (omega arith)

-- ---- parentheses

pub closed_yes :
    (d i inside : List ℕ) (r : Operand) → (get_or i (length i - 1) 0 == 41) ≡ true
    → inside ≡ take (length i - 1) i → r ≡ inner d (slice_split is_comma inside)
    → r ≡ closed d i
unfolding closed
closed_yes d i inside r y is e =
    let all : Operand = inner d (slice_split is_comma (take (length i - 1) i)) in
    e
    ∙ (ap (λ x. inner d (slice_split is_comma x)) is ∙ sym (ap (λ b. cond b all Bad) y))

pub closed_no :
    (d i : List ℕ) → (get_or i (length i - 1) 0 == 41) ≡ false → Bad ≡ closed d i
unfolding closed
closed_no d i n =
    let all : Operand = inner d (slice_split is_comma (take (length i - 1) i)) in
    sym (ap (λ b. cond b all Bad) n)

-- ---- signs

pub signed_minus :
    (w d : List ℕ) (r : Operand) → (get_or w 0 0 == 45) ≡ true → d ≡ drop 1 w
    → r ≡ negative (is_decimal d) d → r ≡ signed w
signed_minus w d r y is e =
    let minus : Operand = negative (is_decimal (drop 1 w)) (drop 1 w) in
    e
    ∙ (ap (λ x. negative (is_decimal x) x) is
    ∙ sym (ap (λ b. cond b minus (plain (number_of w))) y))

pub signed_other :
    (w : List ℕ) (r : Operand) → (get_or w 0 0 == 45) ≡ false → r ≡ plain (number_of w)
    → r ≡ signed w
signed_other w r n e =
    let minus : Operand = negative (is_decimal (drop 1 w)) (drop 1 w) in
    e ∙ sym (ap (λ b. cond b minus (plain (number_of w))) n)
