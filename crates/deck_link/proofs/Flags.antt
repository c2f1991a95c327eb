-- Flags of bytes on which something stands, and the runs by flags.
use Rattle.std.proofs.Common.{◌≡◌, ◌≢◌, ℕ, zero, suc, ◌+◌, ◌<◌, ◌≤◌, Bool, true, false, eqb, ◌||◌, List, [], ◌∷◌, length, take, get_or, set, refl, sym, ◌∙◌, ap, arith, get_or-set_same, get_or-set_other, get_or-take, length-take-le, inl, inr}
use Rattle.std.proofs.lemmas.Bool.{cases_lt, cases_eq}
use Rattle.deck_model.specs.Image.{bytes_from}
use Rattle.deck_loader.proofs.Text.{bytes_from_same}
use Rattle.deck_cards.specs.TextCards.{reaches, Run, closed, next_run, runs, runs_of}
use Rattle.deck_cards.proofs.RunBytes.{reach_none, reach_true, reach_below, reach_above, reach_cases}

-- ---- flags set one by one

pub none_flagged : (at k : ℕ) (b : Bool) → b ≡ (reaches at 0 k || b)
none_flagged at k b = sym (ap (λ x. x || b) (reach_none at k))

or_true : (b c : Bool) → true ≡ ((b || true) || c)
or_true true c = refl
or_true false c = refl

or_none : (b c : Bool) → (b || c) ≡ ((b || false) || c)
or_none true c = refl
or_none false c = refl

apart_one : (a k : ℕ) → k ≢ a → reaches a 1 k ≡ false
apart_one a k n = elim (cases_lt k a) [ inl l ↦ reach_below a 1 k l | inr g ↦ reach_above a 1 k (omega arith) ]

pub one_flagged : (at i k : ℕ) (on old : List Bool) → at + i < length on → get_or on k false ≡ (reaches at i k || get_or old k false) → get_or (set on (at + i) true) k false ≡ (reaches at (i + 1) k || get_or old k false)
one_flagged at i k on old l h = elim (cases_eq k (at + i)) [
  | inl e ↦ ap (λ x. get_or (set on (at + i) true) x false) e
      ∙ (get_or-set_same on (at + i) true false l
      ∙ (or_true (reaches at i k) (get_or old k false)
      ∙ sym (ap (λ x. x || get_or old k false) (reach_cases at i 1 k ∙ ap (λ x. reaches at i k || x) (reach_true (at + i) 1 k (omega arith) (omega arith))))))
  | inr n ↦ get_or-set_other on (at + i) k true false n
      ∙ (h ∙ (or_none (reaches at i k) (get_or old k false)
      ∙ sym (ap (λ x. x || get_or old k false) (reach_cases at i 1 k ∙ ap (λ x. reaches at i k || x) (apart_one (at + i) k n)))))
]

-- ---- runs of flags and bytes that are the same

closed_same : (f g : ℕ → ℕ) (at held : ℕ) (xs ys : List Run) → ((k : ℕ) → k < at + held → f k ≡ g k) → xs ≡ ys → closed f at held xs ≡ closed g at held ys
closed_same f g at zero xs ys h e = e
closed_same f g at (suc m) xs ys h e =
    ap (λ bs. record { at = at; bytes = bs } ∷ xs) (bytes_from_same f g at (suc m) (λ k l u. h k u)) ∙ ap (λ zs. record { at = at; bytes = bytes_from g at (suc m) } ∷ zs) e

case_same : (b full : Bool) (f g : ℕ → ℕ) (at held : ℕ) (more later : ℕ → ℕ → List Run) → ((k : ℕ) → k < at + held → f k ≡ g k) → ((p q : ℕ) → p + q ≡ at + held + 1 → more p q ≡ later p q) → next_run b full f at held more ≡ next_run b full g at held later
case_same false full f g at held more later h m = closed_same f g at held (more (at + held + 1) 0) (later (at + held + 1) 0) h (m (at + held + 1) 0 (omega arith))
case_same true false f g at held more later h m = m at (held + 1) (omega arith)
case_same true true f g at held more later h m = closed_same f g at held (more (at + held) 1) (later (at + held) 1) h (m (at + held) 1 (omega arith))

pub runs_same : (on fl : ℕ → Bool) (f g : ℕ → ℕ) (at held n : ℕ) → ((k : ℕ) → k < at + held + n → f k ≡ g k) → ((k : ℕ) → k < at + held + n → on k ≡ fl k) → runs on f at held n ≡ runs fl g at held n
runs_same on fl f g at held zero h k = closed_same f g at held [] [] (λ j l. h j (omega (arith, l))) refl
runs_same on fl f g at held (suc n) h k =
    let more : ℕ → ℕ → List Run = λ p q. runs on f p q n in
    let later : ℕ → ℕ → List Run = λ p q. runs fl g p q n in
    ap (λ b. next_run b (eqb held 56) f at held more) (k (at + held) (omega arith))
    ∙ case_same (fl (at + held)) (eqb held 56) f g at held more later (λ j l. h j (omega (arith, l)))
    (λ p q e. runs_same on fl f g p q n (λ j l. h j (omega (arith, e, l))) (λ j l. k j (omega (arith, e, l))))

-- the runs of the first bytes
pub taken_runs : (on : ℕ → Bool) (n : ℕ) (xs bytes : List ℕ) → n ≤ length xs → bytes ≡ take n xs → runs_of on (λ k. get_or bytes k 0) (length bytes) ≡ runs_of on (λ k. get_or xs k 0) n
taken_runs on n xs bytes h e =
    let f : ℕ → ℕ = λ k. get_or bytes k 0 in
    let l : length bytes ≡ n = ap length e ∙ length-take-le n xs h in
    ap (λ m. runs_of on f m) l
    ∙ runs_same on on f (λ k. get_or xs k 0) 0 0 n
    (λ k u. ap (λ ys. get_or ys k 0) e ∙ get_or-take n xs k 0 (omega (arith, u))) (λ k u. refl)
