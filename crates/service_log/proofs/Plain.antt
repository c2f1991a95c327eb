-- Fields that were written, and the ends of lines.
use Rattle.std.proofs.Common.{◌≡◌, ℕ, zero, suc, ◌-◌, ◌<◌, ◌^◌, eqb, Bool, true, false, not, List, [], ◌∷◌, ◌++◌, length, take, get_or, inl, inr, Some, None, ◌∙◌, ap, refl, arith, length-append, append_assoc, codes}
use Rattle.std.specs.Prelude.{slice_index}
use Rattle.std.specs.Fmt.{decimal}
use Rattle.std.specs.Char.{is_ascii_digit}
use Rattle.std.specs.List.{list_all, onto_first}
use Rattle.std.proofs.lemmas.Bool.Decides.{nat_tests}
use Rattle.esa_words.proofs.Digits.{digit_is, parts_of, is_decimal_text}
use Rattle.run_model.specs.Script.{fields, is_blank}
use Rattle.run_model.specs.LogReading.{has_line_feed, content}
use Rattle.service_log.proofs.Cuts.{cases_bool}

-- ---- fields

abbrev pub not_blank : ℕ → Bool
not_blank b = not (eqb b 32)

abbrev pub is_plain : List ℕ → Bool
is_plain t = list_all not_blank t

head_plain : (x : ℕ) (xs : List ℕ) → is_plain (x ∷ xs) ≡ true → is_blank x ≡ false
head_plain x xs h = grind (arith, nat_tests)

rest_plain : (x : ℕ) (xs : List ℕ) → is_plain (x ∷ xs) ≡ true → is_plain xs ≡ true
rest_plain x xs h = grind (arith, nat_tests)

pub first_field :
    (a rest : List ℕ) → is_plain a ≡ true → fields (a ++ (32 ∷ rest)) ≡ a ∷ fields rest
unfolding fields
first_field [] rest h = refl
first_field (x ∷ xs) rest h =
    rw (head_plain x xs h) (ap (onto_first x) (first_field xs rest (rest_plain x xs h)))

pub only_field : (a : List ℕ) → is_plain a ≡ true → fields a ≡ a ∷ []
unfolding fields
only_field [] h = refl
only_field (x ∷ xs) h =
    rw (head_plain x xs h) (ap (onto_first x) (only_field xs (rest_plain x xs h)))

digit_plain : (x : ℕ) → is_ascii_digit x ≡ true → not_blank x ≡ true
digit_plain x h = let d = digit_is x h in grind (arith, nat_tests)

digits_plain : (t : List ℕ) → list_all is_ascii_digit t ≡ true → is_plain t ≡ true
digits_plain [] h = refl
digits_plain (x ∷ xs) h =
    let d : is_ascii_digit x ≡ true = grind (arith, nat_tests) in
    let r = digits_plain xs (grind (arith, nat_tests)) in
    rw (digit_plain x d) r

pub decimal_plain : (n : ℕ) → n < 2 ^ 64 → is_plain (decimal n) ≡ true
decimal_plain n h = digits_plain (decimal n) (parts_of (decimal n) (is_decimal_text n h)).digits

-- ---- parts with blanks between them

abbrev pub blank : List ℕ
blank = codes " "

pub to_right :
    (x c w : List ℕ) → ((x ++ blank) ++ c) ++ w ≡ x ++ (32 ∷ (c ++ w))
to_right x c w = ap (λ l. l ++ w) (append_assoc x blank c) ∙ append_assoc x (32 ∷ c) w

pub four_parts :
    (a b c w : List ℕ)
    → a ++ blank ++ b ++ blank ++ c ++ blank ++ w
    ≡ a ++ (32 ∷ (b ++ (32 ∷ (c ++ (32 ∷ w)))))
four_parts a b c w =
    append_assoc (a ++ blank ++ b ++ blank ++ c) blank w
    ∙ to_right (a ++ blank ++ b) c (32 ∷ w)
    ∙ to_right a b (32 ∷ (c ++ (32 ∷ w)))

-- ---- the line feed

last_is : (t : List ℕ) → get_or (t ++ 10 ∷ []) (length t) 0 ≡ 10
last_is [] = refl
last_is (x ∷ xs) = last_is xs

front_is : (t : List ℕ) → take (length t) (t ++ 10 ∷ []) ≡ t
front_is [] = refl
front_is (x ∷ xs) = ap (λ l. x ∷ l) (front_is xs)

pub content_fed : (t : List ℕ) → content (t ++ 10 ∷ []) ≡ Some t
unfolding content
content_fed t =
    let a = length-append t (10 ∷ []) in
    let l : length (t ++ 10 ∷ []) - 1 ≡ length t = omega arith in
    let y : has_line_feed (t ++ 10 ∷ []) ≡ true =
    ap (λ k. eqb (slice_index (t ++ 10 ∷ []) k) 10) l ∙ ap (λ b. eqb b 10) (last_is t) in
    rw y (ap (λ k. Some (take k (t ++ 10 ∷ []))) l ∙ ap (λ x. Some x) (front_is t))

fed_at :
    (t : List ℕ) (n : ℕ) → length t ≡ suc n → get_or t n 0 ≡ 10 → t ≡ take n t ++ 10 ∷ []
fed_at [] n l h = absurd (omega arith)
fed_at (x ∷ []) zero l h = ap (λ b. b ∷ []) h
fed_at (x ∷ []) (suc n) l h = absurd (omega arith)
fed_at (x ∷ y ∷ ys) zero l h = absurd (omega arith)
fed_at (x ∷ y ∷ ys) (suc n) l h = ap (λ b. x ∷ b) (fed_at (y ∷ ys) n (omega arith) h)

fed : (t : List ℕ) → slice_index t (length t - 1) ≡ 10 → t ≡ take (length t - 1) t ++ 10 ∷ []
fed [] h = absurd (omega arith)
fed (x ∷ xs) h = fed_at (x ∷ xs) (length (x ∷ xs) - 1) (omega arith) h

pub content_is : (line text : List ℕ) → content line ≡ Some text → line ≡ text ++ 10 ∷ []
unfolding content
content_is line text h = elim (cases_bool (has_line_feed line)) [
  | inl y ↦
      let is : content line ≡ Some (take (length line - 1) line) = rw y refl in
      let same : take (length line - 1) line ≡ text = cc in
      let ten : slice_index line (length line - 1) ≡ 10 = grind (arith, nat_tests) in
      fed line ten ∙ ap (λ x. x ++ 10 ∷ []) same
  | inr n ↦ let none : content line ≡ None = rw n refl in absurd (cc)
]
