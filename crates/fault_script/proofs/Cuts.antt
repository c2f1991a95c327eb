-- Cutting fields and lines off a text.
use Rattle.std.proofs.Common.{◌≡◌, ℕ, zero, suc, ◌+◌, ◌-◌, ◌<◌, ◌≤◌, Bool, true, false, not, cond, eqb, List, [], ◌∷◌, length, take, drop, get_or, sym, ◌∙◌, ap, refl, arith, length-drop}
use Rattle.std.specs.List.{slice_split, position_or_len, onto_first}
use Rattle.std.proofs.lemmas.List.{take_all, drop-drop}
use Rattle.std.proofs.lemmas.List.Splits.{slice_split_first, length-slice_split}
use Rattle.std.proofs.lemmas.Bool.Decides.{nat_tests}
use Rattle.run_model.specs.Script.{is_blank, is_line_feed, fields, lines, without_last_empty}

first_step : (b : Bool) (n i : ℕ) → cond (not b) (1 + n) 0 ≡ suc i → (b ≡ false) × (n ≡ i)
first_step true n i e = absurd (omega arith)
first_step false n i e = (refl, omega arith)

pub first_at : (p : ℕ → Bool) (xs : List ℕ) (i : ℕ) → i < length xs → position_or_len p (take i xs) ≡ i → p (get_or xs i 0) ≡ true → position_or_len p xs ≡ i
first_at p [] i h e y = absurd (omega arith)
first_at p (x ∷ xs) zero h e y = rw y refl
first_at p (x ∷ xs) (suc i) h e y =
    let s = first_step (p x) (position_or_len p (take i xs)) i e in
    let r = first_at p xs i (omega arith) s.1 y in
    rw s.0 (omega arith)

split_step : (p : ℕ → Bool) (x : ℕ) (xs : List ℕ) (b : Bool) → p x ≡ b → cond (not b) (1 + position_or_len p xs) 0 ≡ suc (length xs) → (position_or_len p xs ≡ length xs → slice_split p xs ≡ xs ∷ []) → slice_split p (x ∷ xs) ≡ (x ∷ xs) ∷ []
split_step p x xs true e h r = absurd (omega arith)
split_step p x xs false e h r = rw e (ap (onto_first x) (r (omega arith)))

pub split_whole : (p : ℕ → Bool) (xs : List ℕ) → position_or_len p xs ≡ length xs → slice_split p xs ≡ xs ∷ []
split_whole p [] e = refl
split_whole p (x ∷ xs) e = split_step p x xs (p x) refl e (split_whole p xs)

abbrev end : List ℕ → ℕ
end t = position_or_len is_blank t

pub last_field : (t l tail : List ℕ) → l ≡ take (end t) t → tail ≡ drop (end t) t → length tail ≡ 0 → end t ≤ length t → fields t ≡ l ∷ []
unfolding fields
last_field t l tail le te none within =
    let n : length tail ≡ length t - end t = ap length te ∙ length-drop (end t) t in
    let whole : end t ≡ length t = omega arith in
    split_whole is_blank t whole ∙ ap (λ x. x ∷ []) (sym (le ∙ take_all (end t) t (omega arith)))

pub next_field : (t l tail after : List ℕ) → l ≡ take (end t) t → tail ≡ drop (end t) t → 0 < length tail → after ≡ drop 1 tail → fields t ≡ l ∷ fields after
unfolding fields
next_field t l tail after le te some ae =
    let n : length tail ≡ length t - end t = ap length te ∙ length-drop (end t) t in
    let lt : end t < length t = omega arith in
    let is : after ≡ drop (end t + 1) t = ae ∙ ap (drop 1) te ∙ drop-drop 1 (end t) t in
    slice_split_first is_blank t 0 lt ∙ ap (λ x. x ∷ slice_split is_blank (drop (end t + 1) t)) (sym le) ∙ ap (λ x. l ∷ slice_split is_blank x) (sym is)

pub some_field : (t : List ℕ) → 0 < length (fields t)
unfolding fields
some_field t = let e = length-slice_split is_blank t in omega arith

-- ---- lines
abbrev cut : List ℕ → ℕ
cut t = position_or_len is_line_feed t

pub lines_none : (t : List ℕ) → length t ≡ 0 → lines t ≡ []
unfolding lines
lines_none [] e = refl
lines_none (x ∷ xs) e = absurd (omega arith)

only : (t : List ℕ) → 0 < length t → without_last_empty (t ∷ []) ≡ t ∷ []
only t h = let z : eqb (length t) 0 ≡ false = grind (arith, nat_tests) in rw z refl

more : (b : List ℕ) (ps : List (List ℕ)) → 0 < length ps → without_last_empty (b ∷ ps) ≡ b ∷ without_last_empty ps
more b [] h = absurd (omega arith)
more b (p ∷ ps) h = refl

pub lines_last : (t l tail : List ℕ) → 0 < length t → l ≡ take (cut t) t → tail ≡ drop (cut t) t → length tail ≡ 0 → cut t ≤ length t → lines t ≡ l ∷ lines tail
unfolding lines
lines_last t l tail some le te none within =
    let n : length tail ≡ length t - cut t = ap length te ∙ length-drop (cut t) t in
    let whole : cut t ≡ length t = omega arith in
    let same : l ≡ t = le ∙ take_all (cut t) t (omega arith) in
    ap without_last_empty (split_whole is_line_feed t whole) ∙ only t some ∙ ap (λ x. x ∷ []) (sym same) ∙ ap (λ x. l ∷ x) (sym (lines_none tail none))

pub lines_next : (t l tail after : List ℕ) → l ≡ take (cut t) t → tail ≡ drop (cut t) t → 0 < length tail → after ≡ drop 1 tail → lines t ≡ l ∷ lines after
unfolding lines
lines_next t l tail after le te some ae =
    let n : length tail ≡ length t - cut t = ap length te ∙ length-drop (cut t) t in
    let lt : cut t < length t = omega arith in
    let is : after ≡ drop (cut t + 1) t = ae ∙ ap (drop 1) te ∙ drop-drop 1 (cut t) t in
    let rest = slice_split is_line_feed (drop (cut t + 1) t) in
    let count = length-slice_split is_line_feed (drop (cut t + 1) t) in
    ap without_last_empty (slice_split_first is_line_feed t 0 lt) ∙ more (take (cut t) t) rest (omega arith) ∙ ap (λ x. x ∷ without_last_empty rest) (sym le) ∙ ap (λ x. l ∷ without_last_empty (slice_split is_line_feed x)) (sym is)
