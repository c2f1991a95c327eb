-- Cutting words off a text.
use Rattle.std.proofs.Common.{◌≡◌, ℕ, zero, suc, ◌+◌, ◌-◌, ◌<◌, ◌≤◌, Bool, true, false, not, cond, List, [], ◌∷◌, length, take, drop, get_or, sym, ◌∙◌, ap, refl, arith, length-drop, length-take}
use Rattle.std.specs.List.{slice_split, position_or_len, filter, onto_first}
use Rattle.std.proofs.lemmas.List.{take_all, drop-drop}
use Rattle.std.proofs.lemmas.List.Splits.{slice_split_first}
use Rattle.std.proofs.lemmas.Bool.Decides.{nat_tests}
use Rattle.run_model.specs.Schedule.{words, is_word, is_separator}
use Rattle.turn_schedule.specs.Words.{IsNextWord}

-- ---- the first piece
first_step : (b : Bool) (n i : ℕ) → cond (not b) (1 + n) 0 ≡ suc i → (b ≡ false) × (n ≡ i)
first_step true n i e = absurd (omega arith)
first_step false n i e = (refl, omega arith)

pub first_at :
    (p : ℕ → Bool) (xs : List ℕ) (i : ℕ) → i < length xs → position_or_len p (take i xs) ≡ i
    → p (get_or xs i 0) ≡ true → position_or_len p xs ≡ i
first_at p [] i h e y = absurd (omega arith)
first_at p (x ∷ xs) zero h e y = rw y refl
first_at p (x ∷ xs) (suc i) h e y =
    let s = first_step (p x) (position_or_len p (take i xs)) i e in
    let r = first_at p xs i (omega arith) s.1 y in
    rw s.0 (omega arith)

split_step :
    (p : ℕ → Bool) (x : ℕ) (xs : List ℕ) (b : Bool) → p x ≡ b
    → cond (not b) (1 + position_or_len p xs) 0 ≡ suc (length xs)
    → (position_or_len p xs ≡ length xs → slice_split p xs ≡ xs ∷ [])
    → slice_split p (x ∷ xs) ≡ (x ∷ xs) ∷ []
split_step p x xs true e h r = absurd (omega arith)
split_step p x xs false e h r = rw e (ap (onto_first x) (r (omega arith)))

split_whole :
    (p : ℕ → Bool) (xs : List ℕ) → position_or_len p xs ≡ length xs → slice_split p xs ≡ xs ∷ []
split_whole p [] e = refl
split_whole p (x ∷ xs) e = split_step p x xs (p x) refl e (split_whole p xs)

-- ---- what stands before the first separator, and what is behind it
abbrev cut : List ℕ → ℕ
cut t = position_or_len is_separator t

pub record IsCutAt (t front tail : List ℕ) : Type 0 where
  pub front_is : front ≡ take (cut t) t
  pub tail_is : tail ≡ drop (cut t) t

pub words_none : (t : List ℕ) → length t ≡ 0 → words t ≡ []
unfolding words
words_none [] e = refl
words_none (x ∷ xs) e = absurd (omega arith)

filter_yes :
    (w : List ℕ) (ws : List (List ℕ)) → is_word w ≡ true
    → filter is_word (w ∷ ws) ≡ w ∷ filter is_word ws
filter_yes w ws e = rw e refl

keep : (w : List ℕ) → 0 < length w → is_word w ≡ true
keep w h = grind (arith, nat_tests)

-- the last word of a text
pub last_word :
    (t w tail : List ℕ) → IsCutAt t w tail → 0 < length t → length tail ≡ 0 → cut t ≤ length t
    → IsNextWord t w tail
unfolding words
last_word t w tail c some none within =
    let l : length tail ≡ length t - cut t = ap length c.tail_is ∙ length-drop (cut t) t in
    let whole : cut t ≡ length t = omega arith in
    let same : w ≡ t = c.front_is ∙ take_all (cut t) t (omega arith) in
    let s = split_whole is_separator t whole in
    let k = keep t some in
    record {
      words_are =
          ap (filter is_word) s ∙ filter_yes t [] k ∙ ap (λ x. x ∷ []) (sym same)
          ∙ ap (λ x. w ∷ x) (sym (words_none tail none));
      shorter = omega arith;
    }

after_is :
    (t tail after : List ℕ) → tail ≡ drop (cut t) t → after ≡ drop 1 tail
    → after ≡ drop (cut t + 1) t
after_is t tail after te ae = ae ∙ ap (drop 1) te ∙ drop-drop 1 (cut t) t

-- the words of a text with a separator: what stands before it, if it is one, and those behind it
abbrev behind : List ℕ → List (List ℕ)
behind t = slice_split is_separator (drop (cut t + 1) t)

words_cut :
    (t : List ℕ) → cut t < length t → words t ≡ filter is_word (take (cut t) t ∷ behind t)
unfolding words
words_cut t lt = ap (filter is_word) (slice_split_first is_separator t 0 lt)

words_behind :
    (t tail after : List ℕ) → tail ≡ drop (cut t) t → after ≡ drop 1 tail
    → words after ≡ filter is_word (behind t)
unfolding words
words_behind t tail after te ae =
    ap (λ x. filter is_word (slice_split is_separator x)) (after_is t tail after te ae)

-- a word before a separator
pub next_word :
    (t w tail after : List ℕ) → IsCutAt t w tail → 0 < length tail → after ≡ drop 1 tail
    → 0 < cut t → IsNextWord t w after
next_word t w tail after c more ae some =
    let l : length tail ≡ length t - cut t = ap length c.tail_is ∙ length-drop (cut t) t in
    let shorter : length after ≡ length tail - 1 = ap length ae ∙ length-drop 1 tail in
    let lt : cut t < length t = omega arith in
    let lw : length w ≡ cut t = ap length c.front_is ∙ simp length-take (omega arith) in
    let k = keep w (omega arith) in
    record {
      words_are =
          words_cut t lt ∙ ap (λ x. filter is_word (x ∷ behind t)) (sym c.front_is)
          ∙ filter_yes w (behind t) k
          ∙ ap (λ x. w ∷ x) (sym (words_behind t tail after c.tail_is ae));
      shorter = omega arith;
    }

-- no word before a separator
pub words_skip :
    (t tail after : List ℕ) → tail ≡ drop (cut t) t → 0 < length tail → after ≡ drop 1 tail
    → cut t ≡ 0 → words t ≡ words after
words_skip t tail after te more ae none =
    let l : length tail ≡ length t - cut t = ap length te ∙ length-drop (cut t) t in
    let lt : cut t < length t = omega arith in
    let e : take (cut t) t ≡ [] = ap (λ i. take i t) none in
    words_cut t lt ∙ ap (λ x. filter is_word (x ∷ behind t)) e
    ∙ sym (words_behind t tail after te ae)
