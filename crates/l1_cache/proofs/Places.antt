-- One place of a list is set.
use Rattle.std.proofs.Common.{◌≡◌, ◌≢◌, ℕ, zero, suc, ◌<◌, List, [], ◌∷◌, length, refl, sym, ap, inl, inr, arith, ◌⊎◌}
use Rattle.std.specs.Prelude.{slice_set, slice_get, Some}
use Rattle.std.proofs.lemmas.Bool.{cases_lt}
use Rattle.std.proofs.lemmas.Option.{same_Some}

pub get_same : {X : Type 0} (s : List X) (i : ℕ) (x : X) → i < length s → slice_get (slice_set s i x) i ≡ Some x
get_same [] i x h = absurd (omega (arith, h))
get_same (y ∷ s) zero x h = refl
get_same (y ∷ s) (suc i) x h = get_same s i x (omega (arith, h))

pub get_other : {X : Type 0} (s : List X) (i j : ℕ) (x : X) → i ≢ j → slice_get (slice_set s i x) j ≡ slice_get s j
get_other [] i j x h = refl
get_other (y ∷ s) zero zero x h = absurd (h refl)
get_other (y ∷ s) zero (suc j) x h = refl
get_other (y ∷ s) (suc i) zero x h = refl
get_other (y ∷ s) (suc i) (suc j) x h = get_other s i j x (λ e. h (ap (λ (k : ℕ). suc k) e))

-- what stands at a place already changes nothing
pub set_again : {X : Type 0} (s : List X) (i : ℕ) (x : X) → slice_get s i ≡ Some x → slice_set s i x ≡ s
set_again [] i x h = refl
set_again {X = X} (y ∷ s) zero x h = ap (λ (z : X). z ∷ s) (sym (same_Some y x h))
set_again {X = X} (y ∷ s) (suc i) x h = ap (λ (t : List X). y ∷ t) (set_again s i x h)

pub same_or : (i j : ℕ) → (i ≡ j) ⊎ (i ≢ j)
same_or i j =
    elim (cases_lt i j) [
      | inl low ↦ inr (omega (arith, low))
      | inr high ↦ elim (cases_lt j i) [ inl low ↦ inr (omega (arith, low)) | inr even ↦ inl (omega (arith, high, even)) ]
    ]
