-- A function with one value given anew.
use Rattle.std.proofs.Common.{◌≡◌, ◌≢◌, ℕ, Bool, true, false, refl, ap, eq-eqb, if◌then◌else◌, eqb-true}
use Rattle.std.specs.Prelude.{◌==◌}
use Rattle.std.proofs.lemmas.Bool.{eqb-false, ne_eqb}
use Rattle.esa_model.specs.Machine.{at}

pub at_same : {A : Type 0} (f : ℕ → A) (i : ℕ) (x : A) → at f i x i ≡ x
at_same f i x = ap (λ b. if b then x else f i) (eq-eqb i i refl)

pub at_other : {A : Type 0} (f : ℕ → A) (i : ℕ) (x : A) (j : ℕ) → j ≢ i → at f i x j ≡ f j
at_other f i x j ne = ap (λ b. if b then x else f j) (ne_eqb j i ne)

at_by_case : {A : Type 0} (P : A → Type 0) (f : ℕ → A) (i : ℕ) (x : A) (j : ℕ) (b : Bool)
    → (j == i) ≡ b → (j ≡ i → P x) → (j ≢ i → P (f j)) → P (if b then x else f j)
at_by_case P f i x j true e p q = p (eqb-true j i e)
at_by_case P f i x j false e p q = q (eqb-false j i e)

-- what holds of the value given and of the others holds of all
pub at_by : {A : Type 0} (P : A → Type 0) (f : ℕ → A) (i : ℕ) (x : A) (j : ℕ) → (j ≡ i → P x)
    → (j ≢ i → P (f j)) → P (at f i x j)
at_by P f i x j p q = at_by_case P f i x j (j == i) refl p q
