-- A text cut at its first such byte.
use Rattle.std.proofs.Common.{◌≡◌, ℕ, zero, suc, ◌+◌, ◌-◌, ◌<◌, ◌≤◌, Bool, true, false, not, cond, List, [], ◌∷◌, length, take, drop, get_or, sym, ◌∙◌, ap, refl, arith, length-drop}
use Rattle.std.specs.List.{slice_split, position_or_len, onto_first}
use Rattle.asm_words.specs.declared.cuts.Rest.{Rest}
use Rattle.asm_words.specs.declared.cuts.Rest.TheVariants.{Nothing, More}
use Rattle.asm_words.specs.Cuts.{is_byte, rest_split, HasParts}
use Rattle.std.proofs.lemmas.List.{take_all, drop-drop}
use Rattle.std.proofs.lemmas.List.Splits.{slice_split_first, length-slice_split}

first_step :
    (b : Bool) (n i : ℕ) → cond (not b) (1 + n) 0 ≡ suc i → (b ≡ false) × (n ≡ i)
first_step true n i e = absurd (omega arith)
first_step false n i e = (refl, omega arith)

pub first_at :
    (p : ℕ → Bool) (xs : List ℕ) (i : ℕ) → i < length xs → position_or_len p (take i xs) ≡ i
    → p (get_or xs i 0) ≡ true → position_or_len p xs ≡ i
first_at p [] i h e y = absurd (omega arith)
first_at p (x ∷ xs) zero h e y = rw y refl
first_at p (x ∷ xs) (suc i) h e y =
    let s = first_step (p x) (position_or_len p (take i xs)) i e in
    let r = first_at p xs i (omega arith) s.1 y in
    rw s.0 (omega arith)

split_step :
    (p : ℕ → Bool) (x : ℕ) (xs : List ℕ) (b : Bool) → p x ≡ b
    → cond (not b) (1 + position_or_len p xs) 0 ≡ suc (length xs)
    → (position_or_len p xs ≡ length xs → slice_split p xs ≡ xs ∷ [])
    → slice_split p (x ∷ xs) ≡ (x ∷ xs) ∷ []
split_step p x xs true e h r = absurd (omega arith)
split_step p x xs false e h r = rw e (ap (onto_first x) (r (omega arith)))

split_whole :
    (p : ℕ → Bool) (xs : List ℕ) → position_or_len p xs ≡ length xs
    → slice_split p xs ≡ xs ∷ []
split_whole p [] e = refl
split_whole p (x ∷ xs) e = split_step p x xs (p x) refl e (split_whole p xs)

pub last_part :
    (p : ℕ → Bool) (t l tail : List ℕ) (n : ℕ) → n ≡ position_or_len p t → n ≤ length t
    → l ≡ take n t → tail ≡ drop n t → length tail ≡ 0 → slice_split p t ≡ l ∷ []
last_part p t l tail n e within le te none =
    let m : length tail ≡ length t - n = ap length te ∙ length-drop n t in
    let whole : position_or_len p t ≡ length t = omega arith in
    split_whole p t whole ∙ ap (λ x. x ∷ []) (sym (le ∙ take_all n t (omega arith)))

pub next_part :
    (p : ℕ → Bool) (t l tail after : List ℕ) (n : ℕ) → n ≡ position_or_len p t
    → l ≡ take n t → tail ≡ drop n t → 0 < length tail → after ≡ drop 1 tail
    → slice_split p t ≡ l ∷ slice_split p after
next_part p t l tail after n e le te some ae =
    let m : length tail ≡ length t - n = ap length te ∙ length-drop n t in
    let lt : position_or_len p t < length t = omega arith in
    let is : after ≡ drop (n + 1) t = ae ∙ (ap (drop 1) te ∙ drop-drop 1 n t) in
    slice_split_first p t 0 lt
    ∙ (ap (λ k. take k t ∷ slice_split p (drop (k + 1) t)) (sym e)
    ∙ (ap (λ x. x ∷ slice_split p (drop (n + 1) t)) (sym le)
    ∙ ap (λ x. l ∷ slice_split p x) (sym is)))

pub some_part : (p : ℕ → Bool) (t : List ℕ) → 0 < length (slice_split p t)
some_part p t = let e = length-slice_split p t in omega arith

-- ---- the parts of a text

pub two_parts :
    (mark : ℕ) (first second rest : List ℕ) (after : Rest)
    → slice_split (is_byte mark) rest ≡ second ∷ rest_split mark after → after ≡ Nothing
    → first ∷ slice_split (is_byte mark) rest ≡ first ∷ second ∷ []
two_parts mark first second rest after e n =
    ap (λ ps. first ∷ ps) (e ∙ ap (λ r. second ∷ rest_split mark r) n)

several_by :
    (mark : ℕ) (first second : List ℕ) (after : Rest) → HasParts mark after
    → (after ≡ Nothing → ⊥) → 2 < length (first ∷ second ∷ rest_split mark after)
several_by mark first second Nothing h n = absurd (n refl)
several_by mark first second (More t) h n = omega arith

pub several_parts :
    (mark : ℕ) (first second rest : List ℕ) (after : Rest)
    → slice_split (is_byte mark) rest ≡ second ∷ rest_split mark after → HasParts mark after
    → (after ≡ Nothing → ⊥) → 2 < length (first ∷ slice_split (is_byte mark) rest)
several_parts mark first second rest after e h n =
    let l = ap length e in
    let s = several_by mark first second after h n in
    omega arith
