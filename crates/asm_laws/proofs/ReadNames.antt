-- A name that was read is eight bytes that are not all blank.
use Rattle.std.proofs.Common.{◌≡◌, ◌≢◌, ℕ, zero, suc, ◌+◌, ◌-◌, ◌*◌, ◌^◌, ◌<◌, ◌≤◌, Bool, true, false, cond, leb, ltb, eqb, ◌&&◌, ◌||◌, List, [], ◌∷◌, length, get_or, Option, Some, None, refl, sym, ◌∙◌, ap, subst, arith, inl, inr, is_some, ◌⊎◌}
use Rattle.std.proofs.lemmas.Bool.Decides.{nat_tests}
use Rattle.std.proofs.lemmas.Bool.{cases_lt}
use Rattle.std.proofs.lemmas.List.Folds.{list_all_at}
use Rattle.std.specs.Char.{is_ascii_digit}
use Rattle.std.specs.List.{list_all}
use Rattle.byteorder.specs.Endian.{big_number}
use Rattle.asm_model.specs.Words.{within, is_capital, is_name_byte, is_name, ebcdic, name_byte, name_bytes, name_of}
use Rattle.asm_deck.specs.Accepted.{NameFits}

pub both : (b c : Bool) → (b && c) ≡ true → (b ≡ true) × (c ≡ true)
both true c h = (refl, h)
both false c h = absurd (grind (arith, nat_tests))

-- ---- bytes

digit_low : (b : ℕ) → is_ascii_digit b ≡ true → b ≤ 57
digit_low b h = grind (arith, nat_tests)

capital_low : (b : ℕ) → is_capital b ≡ true → (65 ≤ b) × (b ≤ 90)
capital_low b h = let i = both (leb 65 b) (leb b 90) h in let x = i.0 in let y = i.1 in (grind (arith, nat_tests), grind (arith, nat_tests))

either : (b c : Bool) → (b || c) ≡ true → b ≡ false → c ≡ true
either true c h e = absurd (grind (arith, nat_tests))
either false c h e = h

not_capital : (b : ℕ) → b < 65 → is_capital b ≡ false
not_capital b h = let x : leb 65 b ≡ false = grind (arith, nat_tests) in ap (λ c. c && leb b 90) x

and_none : (c d : Bool) → d ≡ false → (c && d) ≡ false
and_none true d h = h
and_none false d h = refl

above_capital : (b : ℕ) → 90 < b → is_capital b ≡ false
above_capital b h = let x : leb b 90 ≡ false = grind (arith, nat_tests) in and_none (leb 65 b) (leb b 90) x

-- a digit or a letter
low_or_capital : (b : ℕ) → is_name_byte b ≡ true → (b ≤ 57) ⊎ ((65 ≤ b) × (b ≤ 90))
low_or_capital b h = elim (cases_lt b 65) [
  | inl l ↦ inl (digit_low b (either (is_capital b) (is_ascii_digit b) h (not_capital b l)))
  | inr g ↦ elim (cases_lt 90 b) [
    | inl k ↦ inl (digit_low b (either (is_capital b) (is_ascii_digit b) h (above_capital b k)))
    | inr k ↦ inr (g, k)
  ]
]

digit_code : (b : ℕ) → b ≤ 57 → ebcdic b < 256
digit_code b h = let x : ltb b 65 ≡ true = grind (arith, nat_tests) in rw x (omega arith)

capital_code : (b : ℕ) → 65 ≤ b → b ≤ 90 → (193 ≤ ebcdic b) × (ebcdic b < 256)
capital_code b h k =
    let x : ltb b 65 ≡ false = grind (arith, nat_tests) in
    elim (cases_lt b 74) [
      | inl l ↦ let y : ltb b 74 ≡ true = grind (arith, nat_tests) in (rw x (rw y (omega arith)), rw x (rw y (omega arith)))
      | inr g ↦ let y : ltb b 74 ≡ false = grind (arith, nat_tests) in elim (cases_lt b 83) [
        | inl l ↦ let z : ltb b 83 ≡ true = grind (arith, nat_tests) in (rw x (rw y (rw z (omega arith))), rw x (rw y (rw z (omega arith))))
        | inr j ↦ let z : ltb b 83 ≡ false = grind (arith, nat_tests) in (rw x (rw y (rw z (omega arith))), rw x (rw y (rw z (omega arith))))
      ]
    ]

code_small : (b : ℕ) → is_name_byte b ≡ true → ebcdic b < 256
code_small b h = elim (low_or_capital b h) [ inl l ↦ digit_code b l | inr c ↦ (capital_code b c.0 c.1).1 ]

-- ---- a name's bytes

true_or : (b : Bool) (w : List ℕ) (k : ℕ) → is_name_byte (get_or w k 0) ≡ b → list_all is_name_byte w ≡ true → k < length w → b ≡ true
true_or true w k e h l = refl
true_or false w k e h l = let z = list_all_at is_name_byte w k 0 l e in absurd (grind (arith, nat_tests))

byte_case : (c : Bool) (w : List ℕ) (k : ℕ) → ltb k (length w) ≡ c → list_all is_name_byte w ≡ true → cond c (ebcdic (get_or w k 0)) 64 < 256
byte_case true w k e h =
    let l : k < length w = grind (arith, nat_tests) in
    code_small (get_or w k 0) (true_or (is_name_byte (get_or w k 0)) w k refl h l)
byte_case false w k e h = omega arith

byte_small : (w : List ℕ) (k : ℕ) → list_all is_name_byte w ≡ true → name_byte w k < 256
byte_small w k h = byte_case (ltb k (length w)) w k refl h

first_full : (w : List ℕ) → 0 < length w → is_capital (get_or w 0 0) ≡ true → 193 ≤ name_byte w 0
first_full w l h =
    let x : ltb 0 (length w) ≡ true = grind (arith, nat_tests) in
    let c = capital_low (get_or w 0 0) h in
    let k = (capital_code (get_or w 0 0) c.0 c.1).0 in
    rw x k

-- ---- the number of eight bytes

eight : (a b c d e f g h : ℕ) → 193 ≤ a → a < 256 → b < 256 → c < 256 → d < 256 → e < 256 → f < 256 → g < 256 → h < 256 → NameFits (big_number 8 (a ∷ b ∷ c ∷ d ∷ e ∷ f ∷ g ∷ h ∷ []))
eight a b c d e f g h l i j k m n o p q = (omega arith, λ x. omega (arith, x))

name_is : (w : List ℕ) → is_name w ≡ true → NameFits (big_number 8 (name_bytes w))
unfolding is_name
name_is w h =
    let a = both (within 1 8 (length w)) _ h in
    let b = both (is_capital (get_or w 0 0)) (list_all is_name_byte w) a.1 in
    let s = both (leb 1 (length w)) (leb (length w) 8) a.0 in
    let x = s.0 in
    let l : 0 < length w = grind (arith, nat_tests) in
    let n : (k : ℕ) → name_byte w k < 256 = λ k. byte_small w k b.1 in
    eight (name_byte w 0) (name_byte w 1) (name_byte w 2) (name_byte w 3) (name_byte w 4) (name_byte w 5) (name_byte w 6) (name_byte w 7) (first_full w l b.0) (n 0) (n 1) (n 2) (n 3) (n 4) (n 5) (n 6) (n 7)

abbrev or_zero : Option ℕ → ℕ
or_zero None = 0
or_zero (Some m) = m

name_case : (b : Bool) (w : List ℕ) (m : ℕ) → is_name w ≡ b → cond b (Some (big_number 8 (name_bytes w))) None ≡ Some m → NameFits m
name_case true w m e h = subst NameFits (ap or_zero h) (name_is w e)
name_case false w m e h = let z : false ≡ true = ap is_some h in absurd (grind (arith, nat_tests))

pub name_fits : (w : List ℕ) (m : ℕ) → name_of w ≡ Some m → NameFits m
unfolding name_of
name_fits w m h = name_case (is_name w) w m refl h
