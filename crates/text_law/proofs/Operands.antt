-- The operands of an instruction are read as they were printed.
use Rattle.std.proofs.Common.{◌≡◌, ℕ, ◌<◌, ◌≤◌, false, cond, eqb, List, [], ◌∷◌, ◌++◌, length, map, ◌∙◌, ap, arith, length-append, append_assoc}
use Rattle.std.proofs.lemmas.Bool.Decides.{nat_tests}
use Rattle.asm_text.specs.declared.operands.Operands.{Operands}
use Rattle.asm_text.specs.declared.operands.Operands.TheVariants.{One, Two, Three}
use Rattle.asm_text.specs.Text.{operand_text, operands_text}
use Rattle.asm_model.specs.declared.operands.Operand.{Operand}
use Rattle.asm_model.specs.Pieces.{pieces, operand_of, operands}
use Rattle.text_law.proofs.Marks.{AllIn, in_append}
use Rattle.text_law.proofs.Commas.{first_piece, last_piece}
use Rattle.text_law.proofs.Readings.{IsSmall, reading, flat, text_flat, operand_read, operand_piece, operand_in, operand_long, operand_some}

abbrev pub AreSmall : Operands → Type 0
AreSmall (One a) = IsSmall a
AreSmall (Two a b) = IsSmall a × IsSmall b
AreSmall (Three a b c) = IsSmall a × IsSmall b × IsSmall c

abbrev pub readings : Operands → List Operand
readings (One a) = reading a ∷ []
readings (Two a b) = reading a ∷ reading b ∷ []
readings (Three a b c) = reading a ∷ reading b ∷ reading c ∷ []

-- the text, its parts from the right
abbrev pub flats : Operands → List ℕ
flats (One a) = flat a
flats (Two a b) = flat a ++ 44 ∷ flat b
flats (Three a b c) = flat a ++ 44 ∷ (flat b ++ 44 ∷ flat c)

pub texts_flat : (os : Operands) → operands_text os ≡ flats os
texts_flat (One a) = text_flat a
texts_flat (Two a b) =
    ap (λ x. (x ++ 44 ∷ []) ++ operand_text b) (text_flat a)
    ∙ (append_assoc (flat a) (44 ∷ []) (operand_text b)
    ∙ ap (λ x. flat a ++ 44 ∷ x) (text_flat b))
texts_flat (Three a b c) =
    let left : List ℕ = (flat a ++ 44 ∷ []) ++ flat b in
    ap (λ x. (((x ++ 44 ∷ []) ++ operand_text b) ++ 44 ∷ []) ++ operand_text c) (text_flat a)
    ∙ (ap (λ x. (((flat a ++ 44 ∷ []) ++ x) ++ 44 ∷ []) ++ operand_text c) (text_flat b)
    ∙ (ap (λ x. (left ++ 44 ∷ []) ++ x) (text_flat c)
    ∙ (append_assoc left (44 ∷ []) (flat c)
    ∙ (append_assoc (flat a ++ 44 ∷ []) (flat b) (44 ∷ flat c)
    ∙ append_assoc (flat a) (44 ∷ []) (flat b ++ 44 ∷ flat c)))))

-- ---- its bytes and its length

pub operands_in : (os : Operands) → AreSmall os → AllIn 40 57 (flats os)
operands_in (One a) h = operand_in a h
operands_in (Two a b) h =
    in_append 40 57 (flat a) (44 ∷ flat b) (operand_in a h.0)
    ((omega arith, omega arith), operand_in b h.1)
operands_in (Three a b c) h =
    in_append 40 57 (flat a) (44 ∷ (flat b ++ 44 ∷ flat c)) (operand_in a h.0) (
      (omega arith, omega arith),
      in_append 40 57 (flat b) (44 ∷ flat c) (operand_in b h.1)
          ((omega arith, omega arith), operand_in c h.2),
    )

pub operands_long : (os : Operands) → AreSmall os → length (flats os) ≤ 56
operands_long (One a) h = let l = operand_long a h in omega (arith, l)
operands_long (Two a b) h =
    let l = operand_long a h.0 in
    let m = operand_long b h.1 in
    let e = length-append (flat a) (44 ∷ flat b) in
    omega (arith, l, m, e)
operands_long (Three a b c) h =
    let l = operand_long a h.0 in
    let m = operand_long b h.1 in
    let n = operand_long c h.2 in
    let e = length-append (flat a) (44 ∷ (flat b ++ 44 ∷ flat c)) in
    let f = length-append (flat b) (44 ∷ flat c) in
    omega (arith, l, m, n, e, f)

front_some : (w rest : List ℕ) → 0 < length w → 0 < length (w ++ rest)
front_some w rest h = let e = length-append w rest in omega (arith, e, h)

pub operands_some : (os : Operands) → AreSmall os → 0 < length (flats os)
operands_some (One a) h = operand_some a h
operands_some (Two a b) h =
    front_some (flat a) (44 ∷ flat b) (operand_some a h.0)
operands_some (Three a b c) h =
    front_some (flat a) (44 ∷ (flat b ++ 44 ∷ flat c)) (operand_some a h.0)

-- ---- they are read

pieces_read : (os : Operands) → AreSmall os → map operand_of (pieces [] (flats os)) ≡ readings os
pieces_read (One a) h =
    ap (map operand_of) (last_piece (flat a) (operand_piece a h))
    ∙ ap (λ x. x ∷ []) (operand_read a h)
pieces_read (Two a b) h =
    ap (map operand_of) (first_piece (flat a) (flat b) (operand_piece a h.0)
    ∙ ap (λ xs. flat a ∷ xs) (last_piece (flat b) (operand_piece b h.1)))
    ∙ (ap (λ x. x ∷ operand_of (flat b) ∷ []) (operand_read a h.0)
    ∙ ap (λ x. reading a ∷ x ∷ []) (operand_read b h.1))
pieces_read (Three a b c) h =
    let rest = flat b ++ 44 ∷ flat c in
    ap (map operand_of) (first_piece (flat a) rest (operand_piece a h.0)
    ∙ ap (λ xs. flat a ∷ xs) (first_piece (flat b) (flat c) (operand_piece b h.1)
    ∙ ap (λ xs. flat b ∷ xs) (last_piece (flat c) (operand_piece c h.2))))
    ∙ (ap (λ x. x ∷ operand_of (flat b) ∷ operand_of (flat c) ∷ []) (operand_read a h.0)
    ∙ (ap (λ x. reading a ∷ x ∷ operand_of (flat c) ∷ []) (operand_read b h.1)
    ∙ ap (λ x. reading a ∷ reading b ∷ x ∷ []) (operand_read c h.2)))

pub operands_read : (os : Operands) → AreSmall os → operands (flats os) ≡ readings os
unfolding operands
operands_read os h =
    let l = operands_some os h in
    let e : eqb (length (flats os)) 0 ≡ false = grind (arith, nat_tests) in
    ap (λ b. cond b [] (map operand_of (pieces [] (flats os)))) e ∙ pieces_read os h
