-- Texts that are split where their parts were joined.
use Rattle.std.proofs.Common.{◌≡◌, ℕ, zero, suc, ◌^◌, ◌<◌, ◌≤◌, Bool, true, false, List, [], ◌∷◌, ◌++◌, length, get_or, arith, All}
use Rattle.std.specs.Fmt.{decimal}
use Rattle.std.specs.List.{slice_split, list_all}
use Rattle.std.specs.Char.{is_ascii_digit}
use Rattle.std.proofs.lemmas.Bool.Decides.{nat_tests}
use Rattle.std.proofs.lemmas.List.Splits.{slice_split_none, slice_split_at}
use Rattle.esa_words.proofs.Digits.{parts_of, is_decimal_text}

-- no byte passes the test
abbrev pub Avoids : (ℕ → Bool) → List ℕ → Type 0
Avoids p [] = Unit {0}
Avoids p (x ∷ xs) = (p x ≡ false) × Avoids p xs

at :
    (p : ℕ → Bool) (x : ℕ) (xs : List ℕ) → Avoids p (x ∷ xs) → (k d : ℕ) → k < length (x ∷ xs)
    → p (get_or (x ∷ xs) k d) ≡ false
at p x xs h zero d lt = h.0
at p x [] h (suc k) d lt = absurd (omega arith)
at p x (y ∷ ys) h (suc k) d lt = at p y ys h.1 k d (omega arith)

all_of : (p : ℕ → Bool) (xs : List ℕ) → Avoids p xs → All (λ x. p x ≡ false) xs
all_of p [] h = λ k d lt. absurd (omega arith)
all_of p (x ∷ xs) h = λ k d lt. at p x xs h k d lt

pub split_none :
    (p : ℕ → Bool) (xs : List ℕ) → Avoids p xs → slice_split p xs ≡ xs ∷ []
split_none p xs h = slice_split_none p xs (all_of p xs h)

pub split_at :
    (p : ℕ → Bool) (xs : List ℕ) (y : ℕ) (ys : List ℕ) → Avoids p xs → p y ≡ true
    → slice_split p (xs ++ y ∷ ys) ≡ xs ∷ slice_split p ys
split_at p xs y ys h e = slice_split_at p xs y ys (all_of p xs h) e

pub avoids_both :
    (p : ℕ → Bool) (xs ys : List ℕ) → Avoids p xs → Avoids p ys → Avoids p (xs ++ ys)
avoids_both p [] ys h k = k
avoids_both p (x ∷ xs) ys h k = (h.0, avoids_both p xs ys h.1 k)

-- digits have codes of 48 to 57
abbrev pub SparesDigits : (ℕ → Bool) → Type 0
SparesDigits p = (b : ℕ) → 48 ≤ b → b ≤ 57 → p b ≡ false

avoids_digits :
    (p : ℕ → Bool) (xs : List ℕ) → SparesDigits p → list_all is_ascii_digit xs ≡ true
    → Avoids p xs
avoids_digits p [] s h = tt
avoids_digits p (x ∷ xs) s h =
    let low : 48 ≤ x = grind (arith, nat_tests) in
    let high : x ≤ 57 = grind (arith, nat_tests) in
    let more : list_all is_ascii_digit xs ≡ true = grind (arith, nat_tests) in
    (s x low high, avoids_digits p xs s more)

pub avoids_decimal :
    (p : ℕ → Bool) (n : ℕ) → SparesDigits p → n < 2 ^ 64 → Avoids p (decimal n)
avoids_decimal p n s h =
    avoids_digits p (decimal n) s (parts_of (decimal n) (is_decimal_text n h)).digits
