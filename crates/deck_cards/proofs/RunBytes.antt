-- The runs hold each byte on which something stands.
use Rattle.std.proofs.Common.{◌≡◌, ℕ, zero, suc, ◌+◌, ◌-◌, ◌<◌, ◌≤◌, Bool, true, false, cond, leb, ltb, eqb, ◌&&◌, ◌||◌, List, [], ◌∷◌, ◌++◌, length, get_or, refl, sym, ◌∙◌, ap, arith, ◌⊎◌, inl, inr, add-zero}
use Rattle.std.proofs.lemmas.Bool.Decides.{nat_tests}
use Rattle.std.proofs.lemmas.Bool.{cases_lt}
use Rattle.deck_model.specs.Image.{bytes_from}
use Rattle.deck_cards.specs.TextCards.{reaches, Run, closed, next_run, runs, runs_of, run_byte}

length-bytes_from : (f : ℕ → ℕ) (a n : ℕ) → length (bytes_from f a n) ≡ n
length-bytes_from f a zero = refl
length-bytes_from f a (suc n) = ap suc (length-bytes_from f (a + 1) n)

-- ---- tests

pub reach_in : (at n a : ℕ) → reaches at n a ≡ true → (at ≤ a) × (a < at + n)
reach_in at n a h = (grind (arith, nat_tests), grind (arith, nat_tests))

pub reach_true : (at n a : ℕ) → at ≤ a → a < at + n → reaches at n a ≡ true
reach_true at n a h k = grind (arith, nat_tests)

pub reach_below : (at n a : ℕ) → a < at → reaches at n a ≡ false
reach_below at n a h = grind (arith, nat_tests)

pub reach_above : (at n a : ℕ) → at + n ≤ a → reaches at n a ≡ false
reach_above at n a h = grind (arith, nat_tests)

pub reach_none : (at a : ℕ) → reaches at 0 a ≡ false
reach_none at a = elim (cases_lt a at) [ inl l ↦ reach_below at 0 a l | inr g ↦ reach_above at 0 a (omega arith) ]

-- one place and then n more
pub reach_cases : (at n m a : ℕ) → reaches at (n + m) a ≡ (reaches at n a || reaches (at + n) m a)
reach_cases at n m a =
    elim (cases_lt a at) [
      | inl l ↦ reach_below at (n + m) a l ∙ sym (ap (λ b. b || reaches (at + n) m a) (reach_below at n a l) ∙ reach_below (at + n) m a (omega arith))
      | inr g ↦ elim (cases_lt a (at + n)) [
        | inl l ↦ reach_true at (n + m) a g (omega arith) ∙ sym (ap (λ b. b || reaches (at + n) m a) (reach_true at n a g l))
        | inr k ↦ elim (cases_lt a (at + n + m)) [
          | inl l ↦ reach_true at (n + m) a g (omega arith) ∙ sym (ap (λ b. b || reaches (at + n) m a) (reach_above at n a k) ∙ reach_true (at + n) m a k l)
          | inr j ↦ reach_above at (n + m) a (omega arith) ∙ sym (ap (λ b. b || reaches (at + n) m a) (reach_above at n a k) ∙ reach_above (at + n) m a j)
        ]
      ]
    ]

-- ---- one run

pub byte_at : (f : ℕ → ℕ) (a n k : ℕ) → k < n → get_or (bytes_from f a n) k 0 ≡ f (a + k)
byte_at f a zero k h = absurd (omega arith)
byte_at f a (suc n) zero h = ap f (sym (add-zero a))
byte_at f a (suc n) (suc k) h =
    let e : a + 1 + k ≡ a + suc k = omega arith in
    byte_at f (a + 1) n k (omega arith) ∙ ap f e

run_case : (b : Bool) (f : ℕ → ℕ) (at n a before : ℕ) → reaches at n a ≡ b → cond b (get_or (bytes_from f at n) (a - at) 0) before ≡ cond b (f a) before
run_case true f at n a before e =
    let i = reach_in at n a e in
    let h : a - at < n = omega (arith, i.0, i.1) in
    let s : at + (a - at) ≡ a = omega (arith, i.0) in
    byte_at f at n (a - at) h ∙ ap f s
run_case false f at n a before e = refl

one_run : (f : ℕ → ℕ) (at n a before : ℕ) → cond (reaches at (length (bytes_from f at n)) a) (get_or (bytes_from f at n) (a - at) 0) before ≡ cond (reaches at n a) (f a) before
one_run f at n a before =
    ap (λ m. cond (reaches at m a) (get_or (bytes_from f at n) (a - at) 0) before) (length-bytes_from f at n)
    ∙ run_case (reaches at n a) f at n a before refl

closed_byte : (f : ℕ → ℕ) (at n a before : ℕ) (more : List Run) → run_byte (closed f at n more) a before ≡ run_byte more a (cond (reaches at n a) (f a) before)
closed_byte f at zero a before more = ap (λ b. run_byte more a (cond b (f a) before)) (sym (reach_none at a))
closed_byte f at (suc n) a before more = ap (run_byte more a) (one_run f at (suc n) a before)

-- ---- all runs

cond_or : (x y : Bool) (v w : ℕ) → cond x v (cond y v w) ≡ cond (y || x) v w
cond_or true true v w = refl
cond_or true false v w = refl
cond_or false true v w = refl
cond_or false false v w = refl

-- the next place alone
on_one : (on : ℕ → Bool) (p a : ℕ) (b x : Bool) → on p ≡ b → reaches p 1 a ≡ x → (x && on a) ≡ (x && b)
on_one on p a b true e h =
    let i = reach_in p 1 a h in
    let s : a ≡ p = omega (arith, i.0, i.1) in
    ap on s ∙ e
on_one on p a b false e h = refl

split_on : (x y s : Bool) → ((x || y) && s) ≡ ((x && s) || (y && s))
split_on true true true = refl
split_on true true false = refl
split_on true false true = refl
split_on true false false = refl
split_on false true true = refl
split_on false true false = refl
split_on false false true = refl
split_on false false false = refl

more_on : (on : ℕ → Bool) (p n a : ℕ) (b : Bool) → on p ≡ b → (reaches p (suc n) a && on a) ≡ ((reaches p 1 a && b) || (reaches (p + 1) n a && on a))
more_on on p n a b e =
    let s : suc n ≡ 1 + n = omega arith in
    ap (λ k. reaches p k a && on a) s
    ∙ (ap (λ c. c && on a) (reach_cases p 1 n a)
    ∙ (split_on (reaches p 1 a) (reaches (p + 1) n a) (on a)
    ∙ ap (λ c. c || (reaches (p + 1) n a && on a)) (on_one on p a b (reaches p 1 a) e refl)))

pub and_true : (x : Bool) → (x && true) ≡ x
and_true true = refl
and_true false = refl

pub and_false : (x : Bool) → (x && false) ≡ false
and_false true = refl
and_false false = refl

or_assoc : (x y z : Bool) → (x || (y || z)) ≡ ((x || y) || z)
or_assoc true y z = refl
or_assoc false y z = refl

or_false : (x : Bool) → (x || false) ≡ x
or_false true = refl
or_false false = refl

-- whether a place has a byte of the runs
abbrev Holds : (ℕ → Bool) → ℕ → ℕ → ℕ → ℕ → Bool
Holds on at held n a = reaches at held a || (reaches (at + held) n a && on a)

holds_on : (on : ℕ → Bool) (at held n a : ℕ) → on (at + held) ≡ true → Holds on at held (suc n) a ≡ ((reaches at held a || reaches (at + held) 1 a) || (reaches (at + held + 1) n a && on a))
holds_on on at held n a e =
    ap (λ b. reaches at held a || b) (more_on on (at + held) n a true e)
    ∙ (ap (λ b. reaches at held a || (b || (reaches (at + held + 1) n a && on a))) (and_true (reaches (at + held) 1 a))
    ∙ or_assoc (reaches at held a) (reaches (at + held) 1 a) (reaches (at + held + 1) n a && on a))

holds_off : (on : ℕ → Bool) (at held n a : ℕ) → on (at + held) ≡ false → Holds on at held (suc n) a ≡ (reaches at held a || (reaches (at + held + 1) n a && on a))
holds_off on at held n a e =
    ap (λ b. reaches at held a || b) (more_on on (at + held) n a false e)
    ∙ ap (λ b. reaches at held a || (b || (reaches (at + held + 1) n a && on a))) (and_false (reaches (at + held) 1 a))

runs_case : (b c : Bool) (on : ℕ → Bool) (f : ℕ → ℕ) (at held n a before : ℕ) → on (at + held) ≡ b
    → ((p m w : ℕ) → run_byte (runs on f p m n) a w ≡ cond (Holds on p m n a) (f a) w)
    → run_byte (next_run b c f at held (λ p m. runs on f p m n)) a before ≡ cond (Holds on at held (suc n) a) (f a) before
runs_case true true on f at held n a before e ih =
    let x = reaches at held a in
    let y = reaches (at + held) 1 a in
    let z = reaches (at + held + 1) n a && on a in
    closed_byte f at held a before (runs on f (at + held) 1 n)
    ∙ (ih (at + held) 1 (cond x (f a) before)
    ∙ (cond_or (y || z) x (f a) before
    ∙ ap (λ b. cond b (f a) before) (or_assoc x y z ∙ sym (holds_on on at held n a e))))
runs_case true false on f at held n a before e ih =
    let next : at + (held + 1) ≡ at + held + 1 = omega arith in
    ih at (held + 1) before
    ∙ (ap (λ p. cond (reaches at (held + 1) a || (reaches p n a && on a)) (f a) before) next
    ∙ (ap (λ b. cond (b || (reaches (at + held + 1) n a && on a)) (f a) before) (reach_cases at held 1 a)
    ∙ ap (λ b. cond b (f a) before) (sym (holds_on on at held n a e))))
runs_case false c on f at held n a before e ih =
    let x = reaches at held a in
    let z = reaches (at + held + 1) n a && on a in
    let same : at + held + 1 + 0 ≡ at + held + 1 = omega arith in
    closed_byte f at held a before (runs on f (at + held + 1) 0 n)
    ∙ (ih (at + held + 1) 0 (cond x (f a) before)
    ∙ (ap (λ b. cond (b || (reaches (at + held + 1 + 0) n a && on a)) (f a) (cond x (f a) before)) (reach_none (at + held + 1) a)
    ∙ (ap (λ p. cond (reaches p n a && on a) (f a) (cond x (f a) before)) same
    ∙ (cond_or z x (f a) before ∙ ap (λ b. cond b (f a) before) (sym (holds_off on at held n a e))))))

pub runs_byte : (on : ℕ → Bool) (f : ℕ → ℕ) (at held n a before : ℕ) → run_byte (runs on f at held n) a before ≡ cond (Holds on at held n a) (f a) before
runs_byte on f at held zero a before =
    closed_byte f at held a before []
    ∙ ap (λ b. cond b (f a) before) (sym (ap (λ b. reaches at held a || (b && on a)) (reach_none (at + held) a) ∙ or_false (reaches at held a)))
runs_byte on f at held (suc n) a before = runs_case (on (at + held)) (eqb held 56) on f at held n a before refl (λ p m w. runs_byte on f p m n a w)

-- ---- the runs of a section

pub runs_hold : (stands : ℕ → Bool) (f : ℕ → ℕ) (n a before : ℕ) → run_byte (runs_of stands f n) a before ≡ cond (reaches 0 n a && stands a) (f a) before
runs_hold stands f n a before =
    runs_byte stands f 0 0 n a before
    ∙ ap (λ b. cond (b || (reaches (0 + 0) n a && stands a)) (f a) before) (reach_none 0 a)
