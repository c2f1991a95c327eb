-- Each printed operand is read as its operand.
use Rattle.std.proofs.Common.{◌≡◌, ℕ, ◌+◌, ◌-◌, ◌<◌, ◌≤◌, false, cond, eqb, List, [], ◌∷◌, ◌++◌, length, take, drop, get_or, Some, refl, sym, ◌∙◌, ap, arith, length-append, append_assoc}
use Rattle.std.proofs.lemmas.Bool.Decides.{nat_tests}
use Rattle.std.proofs.lemmas.List.{get_or-append_right}
use Rattle.std.proofs.Math.Seq.{take-append_seam}
use Rattle.std.specs.List.{slice_split}
use Rattle.run_model.specs.Numbers.{decimal, is_decimal}
use Rattle.esa_words.proofs.Digits.{is_decimal_text}
use Rattle.asm_text.specs.declared.operands.Operand.{Operand as Printed}
use Rattle.asm_text.specs.declared.operands.Operand.TheVariants as printed
use Rattle.asm_text.specs.Text.{operand_text}
use Rattle.asm_model.specs.declared.operands.Operand.{Operand}
use Rattle.asm_model.specs.declared.operands.Operand.TheVariants.{Plain, Negative, Based, Indexed, Bad}
use Rattle.asm_model.specs.Words.{number_of}
use Rattle.asm_model.specs.Pieces.{is_left, is_right, is_comma, is_plus, simple, word, negative, plain, based, indexed, inner, closed, by_parens, simple_operand, operand_of}
use Rattle.text_law.proofs.Marks.{AllIn, in_append, in_wider, Free, free_append, split_front, split_none}
use Rattle.text_law.proofs.Commas.{IsPiece, free_piece, based_piece, indexed_piece, outside}
use Rattle.text_law.proofs.Decimals.{decimal_in, decimal_some, decimal_long, unmarked, value_is, number_is, first_digit, no_name}

-- ---- n and -n

no_sign : (b : ℕ) → 48 ≤ b → eqb b 45 ≡ false
no_sign b h = grind (arith, nat_tests)

plain_read : (n : ℕ) → n < 65536 → operand_of (decimal n) ≡ Plain n
unfolding operand_of simple_operand
plain_read n h =
    let w = decimal n in
    let f = first_digit n h in
    let minus : Operand = negative (is_decimal (drop 1 w)) (drop 1 w) in
    ap by_parens (split_none is_left w (unmarked 40 n (omega arith) h))
    ∙ (ap simple (split_none is_plus w (unmarked 43 n (omega arith) h))
    ∙ (ap (λ m. word m w) (no_name w f.1)
    ∙ (ap (λ b. cond b minus (plain (number_of w))) (no_sign (get_or w 0 0) f.0)
    ∙ ap plain (number_is n h))))

minus_read : (n : ℕ) → n < 65536 → operand_of (45 ∷ decimal n) ≡ Negative n
unfolding operand_of simple_operand
minus_read n h =
    let w = 45 ∷ decimal n in
    ap by_parens (split_none is_left w (refl, unmarked 40 n (omega arith) h))
    ∙ (ap simple (split_none is_plus w (refl, unmarked 43 n (omega arith) h))
    ∙ (ap (λ m. word m w) (no_name w (omega arith))
    ∙ (ap (λ b. negative b (decimal n)) (is_decimal_text n (omega arith))
    ∙ ap Negative (value_is n h))))

-- ---- d(b) and d(x,b)

-- what stands in parentheses
abbrev shut : List ℕ → List ℕ
shut w = w ++ 41 ∷ []

closed_is : (d w : List ℕ) → closed d (shut w) ≡ inner d (slice_split is_comma w)
unfolding closed
closed_is d w =
    let all : ℕ → Operand = λ k. inner d (slice_split is_comma (take k (shut w))) in
    let l = length-append w (41 ∷ []) in
    let k : length (shut w) - 1 ≡ length w = omega (arith, l) in
    let z : length w - length w ≡ 0 = omega arith in
    let last : get_or (shut w) (length w) 0 ≡ 41 =
    get_or-append_right w (41 ∷ []) (length w) (length w) 0 refl (omega arith)
    ∙ ap (λ i. get_or (41 ∷ []) i 0) z in
    ap (λ n. cond (eqb (get_or (shut w) n 0) 41) (all n) Bad) k
    ∙ (ap (λ x. cond (eqb x 41) (all (length w)) Bad) last
    ∙ ap (λ xs. inner d (slice_split is_comma xs)) (take-append_seam w (41 ∷ [])))

shut_read :
    (d : ℕ) (w : List ℕ) → d < 65536 → Free is_left w
    → operand_of (decimal d ++ 40 ∷ shut w) ≡ inner (decimal d) (slice_split is_comma w)
unfolding operand_of
shut_read d w h f =
    let rest : Free is_left (shut w) = free_append is_left w (41 ∷ []) f (refl, tt) in
    ap by_parens (split_front is_left (decimal d) 40 (shut w) (unmarked 40 d (omega arith) h) refl
    ∙ ap (λ xs. decimal d ∷ xs) (split_none is_left (shut w) rest))
    ∙ closed_is (decimal d) w

based_read :
    (d b : ℕ) → d < 65536 → b < 65536
    → operand_of (decimal d ++ 40 ∷ (decimal b ++ 41 ∷ [])) ≡ Based d b
based_read d b h k =
    shut_read d (decimal b) h (unmarked 40 b (omega arith) k)
    ∙ (ap (inner (decimal d)) (split_none is_comma (decimal b) (unmarked 44 b (omega arith) k))
    ∙ (ap (λ x. based x (number_of (decimal b))) (number_is d h)
    ∙ ap (based (Some d)) (number_is b k)))

indexed_read :
    (d x b : ℕ) → d < 65536 → x < 65536 → b < 65536
    → operand_of (decimal d ++ 40 ∷ (decimal x ++ 44 ∷ (decimal b ++ 41 ∷ []))) ≡ Indexed d x b
indexed_read d x b h g k =
    let w = decimal x ++ 44 ∷ decimal b in
    let f : Free is_left w =
    free_append is_left (decimal x) (44 ∷ decimal b) (unmarked 40 x (omega arith) g)
    (refl, unmarked 40 b (omega arith) k) in
    let cx = unmarked 44 x (omega arith) g in
    let cb = unmarked 44 b (omega arith) k in
    ap (λ xs. operand_of (decimal d ++ 40 ∷ xs))
    (sym (append_assoc (decimal x) (44 ∷ decimal b) (41 ∷ [])))
    ∙ (shut_read d w h f
    ∙ (ap (inner (decimal d)) (split_front is_comma (decimal x) 44 (decimal b) cx refl
    ∙ ap (λ xs. decimal x ∷ xs) (split_none is_comma (decimal b) cb))
    ∙ (ap (λ y. indexed y (number_of (decimal x)) (number_of (decimal b))) (number_is d h)
    ∙ (ap (λ y. indexed (Some d) y (number_of (decimal b))) (number_is x g)
    ∙ ap (indexed (Some d) (Some x)) (number_is b k)))))

-- ---- all forms

abbrev pub IsSmall : Printed → Type 0
IsSmall (printed.Number n) = n < 65536
IsSmall (printed.Minus n) = n < 65536
IsSmall (printed.Based d b) = (d < 65536) × (b < 65536)
IsSmall (printed.Indexed d x b) = (d < 65536) × (x < 65536) × (b < 65536)

abbrev pub reading : Printed → Operand
reading (printed.Number n) = Plain n
reading (printed.Minus n) = Negative n
reading (printed.Based d b) = Based d b
reading (printed.Indexed d x b) = Indexed d x b

regrouped : (a m b n : List ℕ) → ((a ++ m) ++ b) ++ n ≡ a ++ (m ++ (b ++ n))
regrouped a m b n = append_assoc (a ++ m) b n ∙ append_assoc a m (b ++ n)

-- the text, its parts from the right
abbrev pub flat : Printed → List ℕ
flat (printed.Number n) = decimal n
flat (printed.Minus n) = 45 ∷ decimal n
flat (printed.Based d b) = decimal d ++ 40 ∷ (decimal b ++ 41 ∷ [])
flat (printed.Indexed d x b) = decimal d ++ 40 ∷ (decimal x ++ 44 ∷ (decimal b ++ 41 ∷ []))

pub text_flat : (a : Printed) → operand_text a ≡ flat a
text_flat (printed.Number n) = refl
text_flat (printed.Minus n) = refl
text_flat (printed.Based d b) = regrouped (decimal d) (40 ∷ []) (decimal b) (41 ∷ [])
text_flat (printed.Indexed d x b) =
    let left = (decimal d ++ 40 ∷ []) ++ decimal x in
    regrouped left (44 ∷ []) (decimal b) (41 ∷ [])
    ∙ regrouped (decimal d) (40 ∷ []) (decimal x) (44 ∷ (decimal b ++ 41 ∷ []))

pub operand_read : (a : Printed) → IsSmall a → operand_of (flat a) ≡ reading a
operand_read (printed.Number n) h = plain_read n h
operand_read (printed.Minus n) h = minus_read n h
operand_read (printed.Based d b) h = based_read d b h.0 h.1
operand_read (printed.Indexed d x b) h = indexed_read d x b h.0 h.1 h.2

comma_free : (n : ℕ) → n < 65536 → Free is_comma (decimal n)
comma_free n h = unmarked 44 n (omega arith) h

shut_free : (n : ℕ) → n < 65536 → Free is_right (decimal n)
shut_free n h = unmarked 41 n (omega arith) h

open_free : (n : ℕ) → n < 65536 → Free is_left (decimal n)
open_free n h = unmarked 40 n (omega arith) h

pub operand_piece : (a : Printed) → IsSmall a → IsPiece (flat a)
operand_piece (printed.Number n) h =
    free_piece (decimal n) (comma_free n h) (outside (decimal n) (open_free n h))
operand_piece (printed.Minus n) h =
    free_piece (45 ∷ decimal n) (refl, comma_free n h)
    (outside (45 ∷ decimal n) (refl, open_free n h))
operand_piece (printed.Based d b) h =
    based_piece (decimal d) (decimal b) (comma_free d h.0) (comma_free b h.1)
operand_piece (printed.Indexed d x b) h =
    indexed_piece (decimal d) (decimal x) (decimal b) (comma_free d h.0) (comma_free x h.1)
    (comma_free b h.2) (shut_free d h.0) (shut_free x h.1)

-- ---- its bytes and its length

digits_wide : (n : ℕ) → n < 65536 → AllIn 40 57 (decimal n)
digits_wide n h = in_wider 48 57 40 57 (decimal n) (omega arith) (omega arith) (decimal_in n h)

one_in : (b : ℕ) → 40 ≤ b → b ≤ 57 → AllIn 40 57 (b ∷ [])
one_in b h k = ((h, k), tt)

before_mark :
    (n mark : ℕ) (rest : List ℕ) → n < 65536 → 40 ≤ mark → mark ≤ 57 → AllIn 40 57 rest
    → AllIn 40 57 (decimal n ++ mark ∷ rest)
before_mark n mark rest h l m r =
    in_append 40 57 (decimal n) (mark ∷ rest) (digits_wide n h) ((l, m), r)

pub operand_in : (a : Printed) → IsSmall a → AllIn 40 57 (flat a)
operand_in (printed.Number n) h = digits_wide n h
operand_in (printed.Minus n) h = ((omega arith, omega arith), digits_wide n h)
operand_in (printed.Based d b) h =
    before_mark d 40 (decimal b ++ 41 ∷ []) h.0 (omega arith) (omega arith)
    (before_mark b 41 [] h.1 (omega arith) (omega arith) tt)
operand_in (printed.Indexed d x b) h =
    before_mark d 40 (decimal x ++ 44 ∷ (decimal b ++ 41 ∷ [])) h.0 (omega arith) (omega arith)
    (before_mark x 44 (decimal b ++ 41 ∷ []) h.1 (omega arith) (omega arith)
    (before_mark b 41 [] h.2 (omega arith) (omega arith) tt))

mark_long :
    (n mark k : ℕ) (rest : List ℕ) → n < 65536 → length rest ≤ k
    → length (decimal n ++ mark ∷ rest) ≤ k + 6
mark_long n mark k rest h l =
    let e = length-append (decimal n) (mark ∷ rest) in
    let d = decimal_long n h in
    omega (arith, e, d, l)

mark_some : (n mark : ℕ) (rest : List ℕ) → 0 < length (decimal n ++ mark ∷ rest)
mark_some n mark rest =
    let e = length-append (decimal n) (mark ∷ rest) in
    omega (arith, e)

pub operand_long : (a : Printed) → IsSmall a → length (flat a) ≤ 18
operand_long (printed.Number n) h = let d = decimal_long n h in omega (arith, d)
operand_long (printed.Minus n) h = let d = decimal_long n h in omega (arith, d)
operand_long (printed.Based d b) h =
    let l = mark_long b 41 0 [] h.1 (omega arith) in
    let m = mark_long d 40 6 (decimal b ++ 41 ∷ []) h.0 l in
    omega (arith, m)
operand_long (printed.Indexed d x b) h =
    let l = mark_long b 41 0 [] h.2 (omega arith) in
    let m = mark_long x 44 6 (decimal b ++ 41 ∷ []) h.1 l in
    mark_long d 40 12 (decimal x ++ 44 ∷ (decimal b ++ 41 ∷ [])) h.0 m

pub operand_some : (a : Printed) → IsSmall a → 0 < length (flat a)
operand_some (printed.Number n) h = decimal_some n h
operand_some (printed.Minus n) h = omega arith
operand_some (printed.Based d b) h = mark_some d 40 (decimal b ++ 41 ∷ [])
operand_some (printed.Indexed d x b) h =
    mark_some d 40 (decimal x ++ 44 ∷ (decimal b ++ 41 ∷ []))
