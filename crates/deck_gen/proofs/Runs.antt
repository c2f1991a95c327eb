-- The words of the schedule that are still to be put.
use Rattle.std.proofs.Common.{◌≡◌, ℕ, zero, suc, ◌+◌, ◌-◌, ◌*◌, ◌/◌, ◌%◌, ◌<◌, ◌≤◌, true, false, List, [], ◌∷◌, ◌++◌, length, min, refl, sym, ◌∙◌, ap, subst, arith, append_assoc, append-nil}
use Rattle.std.specs.Prelude.{codes, ◌==◌}
use Rattle.std.proofs.lemmas.Bool.Decides.{nat_tests}
use Rattle.run_model.specs.declared.schedules.Run.{Run}
use Rattle.program_model.specs.Draws.{draw, after}
use Rattle.program_model.specs.Generator.{turns_of, drawn_runs, later_runs, run_text, schedule_draws}
use Rattle.deck_gen.specs.Parts.{behind_blanks, later_text}
use Rattle.deck_gen.proofs.Drawn.{after_after, after_none}

-- the turns of the next word
abbrev pub taken : ℕ → ℕ → ℕ
taken left x = min left (8 + draw 2 x % 9)

abbrev pub next_run : ℕ → ℕ → Run
next_run left x = turns_of (draw 1 x % 8) (taken left x)

-- no turn is left
pub no_runs : (most left x : ℕ) → left ≡ 0 → drawn_runs most left x ≡ []
no_runs zero left x e = refl
no_runs (suc most) left x e = let z : (left == 0) ≡ true = grind (arith, nat_tests) in rw z refl

pub one_run :
    (most left x : ℕ) → 0 < left
    → drawn_runs (suc most) left x
    ≡ next_run left x ∷ drawn_runs most (left - taken left x) (after 2 x)
one_run most left x h = let z : (left == 0) ≡ false = grind (arith, nat_tests) in rw z refl

-- so many words at most are enough
same_most :
    (m k left x : ℕ) → left ≤ 8 * m → left ≤ 8 * k → drawn_runs m left x ≡ drawn_runs k left x
same_most zero k left x h l = sym (no_runs k left x (omega arith))
same_most (suc m) zero left x h l = no_runs (suc m) left x (omega arith)
same_most (suc m) (suc k) zero x h l = refl
same_most (suc m) (suc k) (suc left) x h l =
    let n : ℕ = suc left in
    let r = same_most m k (n - taken n x) (after 2 x) (omega arith) (omega arith) in
    one_run m n x (omega arith) ∙ ap (λ runs. next_run n x ∷ runs) r
    ∙ sym (one_run k n x (omega arith))

-- the words of so many turns
abbrev pub runs_of : ℕ → ℕ → List Run
runs_of left x = drawn_runs ((left + 7) / 8) left x

pub first_run :
    (left x : ℕ) → 0 < left
    → runs_of left x ≡ next_run left x ∷ runs_of (left - taken left x) (after 2 x)
first_run left x h =
    let n = left - taken left x in
    let e : (left + 7) / 8 ≡ suc ((left - 1) / 8) = omega arith in
    let r = same_most ((left - 1) / 8) ((n + 7) / 8) n (after 2 x) (omega arith) (omega arith) in
    ap (λ k. drawn_runs k left x) e ∙ one_run ((left - 1) / 8) left x h
    ∙ ap (λ runs. next_run left x ∷ runs) r

-- words were put, and so many turns are left
pub record RunsPut (turns left x x0 : ℕ) (out out0 : List ℕ) : Type 0 where
  pub text : out ++ behind_blanks (runs_of left x) ≡ out0 ++ later_text turns x0
  pub rest : after (2 * length (runs_of left x)) x ≡ after (schedule_draws turns x0) x0

pub none_put :
    (turns left x : ℕ) (out : List ℕ) → left ≡ turns - 32 → RunsPut turns left x x out out
unfolding later_runs schedule_draws
none_put turns left x out e = record {
  text = ap (λ n. out ++ behind_blanks (runs_of n x)) e;
  rest = ap (λ n. after (2 * length (runs_of n x)) x) e;
}

one_put :
    (turns left x x0 y : ℕ) (out out0 more : List ℕ) → RunsPut turns left x x0 out out0
    → 0 < left → more ≡ out ++ (codes " " ++ run_text (next_run left x)) → y ≡ after 2 x
    → RunsPut turns (left - taken left x) y x0 more out0
one_put turns left x x0 y out out0 more h some e s =
    let n = left - taken left x in
    let word = codes " " ++ run_text (next_run left x) in
    let f = first_run left x some in
    let c : 2 + 2 * length (runs_of n (after 2 x)) ≡ 2 * length (runs_of left x)
    = omega (arith, ap length f) in
    record {
      text =
          ap (λ xs. xs ++ behind_blanks (runs_of n y)) e
          ∙ append_assoc out word (behind_blanks (runs_of n y))
          ∙ ap (λ z. out ++ (word ++ behind_blanks (runs_of n z))) s
          ∙ ap (λ runs. out ++ behind_blanks runs) (sym f)
          ∙ h.text;
      rest =
          ap (λ z. after (2 * length (runs_of n z)) z) s
          ∙ after_after 2 (2 * length (runs_of n (after 2 x))) x
          ∙ ap (λ j. after j x) c
          ∙ h.rest;
    }

-- the same for a CPU and turns that were drawn
pub one_more :
    (turns left x x0 y cpu count : ℕ) (out out0 more : List ℕ)
    → RunsPut turns left x x0 out out0 → 0 < left → cpu ≡ draw 1 x % 8 → count ≡ taken left x
    → more ≡ out ++ (codes " " ++ run_text (turns_of cpu count)) → y ≡ after 2 x
    → RunsPut turns (left - count) y x0 more out0
one_more turns left x x0 y cpu count out out0 more h some c n e s =
    let p : turns_of cpu count ≡ next_run left x
    = ap (λ k. turns_of k count) c ∙ ap (turns_of (draw 1 x % 8)) n in
    let word = ap (λ r. out ++ (codes " " ++ run_text r)) p in
    subst (λ k. RunsPut turns (left - k) y x0 more out0) (sym n)
    (one_put turns left x x0 y out out0 more h some (e ∙ word) s)

pub all_put :
    (turns left x x0 : ℕ) (out out0 : List ℕ) → RunsPut turns left x x0 out out0 → left ≡ 0
    → (out ≡ out0 ++ later_text turns x0) × (x ≡ after (schedule_draws turns x0) x0)
all_put turns left x x0 out out0 h z =
    let e = no_runs ((left + 7) / 8) left x z in (
      sym (append-nil out) ∙ ap (λ runs. out ++ behind_blanks runs) (sym e) ∙ h.text,
      sym (after_none (2 * length (runs_of left x)) x (omega (arith, ap length e))) ∙ h.rest,
    )
