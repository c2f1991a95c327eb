-- The lines of the script that are still to be put.
use Rattle.std.proofs.Common.{◌≡◌, ℕ, suc, ◌+◌, ◌-◌, ◌*◌, ◌/◌, ◌%◌, ◌<◌, ◌≤◌, List, [], ◌∷◌, ◌++◌, refl, sym, ◌∙◌, ap, arith, append_assoc, append-nil}
use Rattle.std.proofs.lemmas.Bool.Decides.{nat_tests}
use Rattle.run_model.specs.Script.{core_no}
use Rattle.run_model.specs.declared.faults.Strike.{Strike}
use Rattle.program_model.specs.Draws.{draw, after}
use Rattle.program_model.specs.Generator.{strike, draws_of_sort, strikes, strike_text, script}
use Rattle.deck_gen.specs.Parts.{next_strike, next_draws}
use Rattle.deck_gen.proofs.Drawn.{after_after, draw_after}

-- ---- one strike

pub strike_drawn :
    (j x y a b n : ℕ) (s : Strike) → a ≡ draw 1 x → b ≡ draw 2 x → y ≡ after 2 x
    → n ≡ 50 * (j / 8) + a % 32
    → s ≡ strike (b % 4) (core_no (j % 8)) n (draw 1 y) (draw 2 y) → s ≡ next_strike j x
strike_drawn j x y a b n s p q r t h =
    let made = λ (m k d e : ℕ). strike (k % 4) (core_no (j % 8)) m d e in
    let attempt = 50 * (j / 8) + draw 1 x % 32 in
    h ∙ ap (λ m. made m b (draw 1 y) (draw 2 y)) (t ∙ ap (λ m. 50 * (j / 8) + m % 32) p)
    ∙ ap (λ k. made attempt k (draw 1 y) (draw 2 y)) q
    ∙ ap (λ d. made attempt (draw 2 x) d (draw 2 y)) (ap (draw 1) r ∙ draw_after 2 1 x)
    ∙ ap (made attempt (draw 2 x) (draw 3 x)) (ap (draw 2) r ∙ draw_after 2 2 x)

two_first : (sort : ℕ) → 2 + (draws_of_sort sort - 2) ≡ draws_of_sort sort
two_first sort = grind (arith, nat_tests)

pub draws_taken :
    (x y b z : ℕ) → b ≡ draw 2 x → y ≡ after 2 x → z ≡ after (draws_of_sort (b % 4) - 2) y
    → z ≡ after (next_draws x) x
draws_taken x y b z q r h =
    h ∙ ap (λ k. after (draws_of_sort (k % 4) - 2) y) q
    ∙ ap (after (next_draws x - 2)) r ∙ after_after 2 (next_draws x - 2) x
    ∙ ap (λ n. after n x) (two_first (draw 2 x % 4))

-- ---- the lines

pub first_line :
    (s : Strike) (ss : List Strike)
    → script (s ∷ ss) ≡ (strike_text s ++ 10 ∷ []) ++ script ss
unfolding script
first_line s ss = refl

pub no_line : script [] ≡ []
unfolding script
no_line = refl

first_strike :
    (n m j x : ℕ) → n ≡ suc m
    → strikes n j x ≡ next_strike j x ∷ strikes m (j + 1) (after (next_draws x) x)
first_strike n m j x e = ap (λ k. strikes k j x) e

-- so many lines were put
pub record StrikesPut (count j x x0 : ℕ) (out : List ℕ) : Type 0 where
  pub text : out ++ script (strikes (count - j) j x) ≡ script (strikes count 0 x0)

pub none_put : (count x : ℕ) → StrikesPut count 0 x x []
none_put count x =
    let e : count - 0 ≡ count = omega arith in
    record { text = ap (λ n. script (strikes n 0 x)) e }

pub one_put :
    (count j x x0 y : ℕ) (out more : List ℕ) → StrikesPut count j x x0 out → j < count
    → more ≡ out ++ (strike_text (next_strike j x) ++ 10 ∷ []) → y ≡ after (next_draws x) x
    → StrikesPut count (j + 1) y x0 more
one_put count j x x0 y out more h lt e s =
    let n : count - j ≡ suc (count - (j + 1)) = omega arith in
    let k = count - (j + 1) in
    let line = strike_text (next_strike j x) ++ 10 ∷ [] in
    let next = strikes k (j + 1) (after (next_draws x) x) in
    record {
      text =
          ap (λ xs. xs ++ script (strikes k (j + 1) y)) e
          ∙ ap (λ z. (out ++ line) ++ script (strikes k (j + 1) z)) s
          ∙ append_assoc out line (script next)
          ∙ ap (λ xs. out ++ xs) (sym (first_line (next_strike j x) next))
          ∙ ap (λ ss. out ++ script ss) (sym (first_strike (count - j) k j x n))
          ∙ h.text;
    }

pub all_put :
    (count j x x0 : ℕ) (out : List ℕ) → StrikesPut count j x x0 out → count ≤ j
    → out ≡ script (strikes count 0 x0)
all_put count j x x0 out h le =
    let n : count - j ≡ 0 = omega arith in
    let e : script (strikes (count - j) j x) ≡ []
    = ap (λ k. script (strikes k j x)) n ∙ no_line in
    sym (append-nil out) ∙ ap (λ xs. out ++ xs) (sym e) ∙ h.text
