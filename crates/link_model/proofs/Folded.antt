-- Relocations in any order that keeps each constant, and once for all origins.
use Rattle.std.proofs.Common.{◌≡◌, ℕ, ◌+◌, ◌≤◌, Bool, true, false, cond, List, [], ◌∷◌, refl, sym, ◌∙◌, ap, subst, add-zero, ◌⊎◌, inl, inr}
use Rattle.deck_model.specs.Image.{relocated_byte}
use Rattle.link_model.proofs.Relative.{Relative, whole, folded, late, WidthsFit, FitTogether, EachFits, Apart}
use Rattle.link_model.proofs.Bytes.{same_byte, swap_same, swap_apart, split_byte}

abbrev by : Relative → ℕ → (ℕ → ℕ) → ℕ → ℕ
by r v f = relocated_byte r.at r.width r.minus v f

-- two that fit together, in either order
swap : (r s : Relative) (v u : ℕ) (f : ℕ → ℕ) → FitTogether r s → (a : ℕ) → by r v (by s u f) a ≡ by s u (by r v f) a
swap r s v u f (inr d) a = swap_apart r.at r.width r.minus v s.at s.width s.minus u f a d
swap r s v u f (inl e) a =
    let P : ℕ → ℕ → Type 0 = λ p w. relocated_byte r.at r.width r.minus v (relocated_byte p w s.minus u f) a ≡ relocated_byte p w s.minus u (relocated_byte r.at r.width r.minus v f) a in
    let one : P r.at r.width = swap_same r.at r.width r.minus v s.minus u f a in
    let two : P s.at r.width = subst (λ p. P p r.width) e.0 one in
    subst (λ w. P s.at w) e.1 two

past_case : (b : Bool) (o : ℕ) (r s : Relative) (v : ℕ) (rs : List Relative) (f : ℕ → ℕ) → FitTogether r s × EachFits r rs → (a : ℕ) → ((c : ℕ) → by r v (late o rs f) c ≡ late o rs (by r v f) c) → by r v (cond b (by s (o + 4294967296) (late o rs f)) (late o rs f)) a ≡ cond b (by s (o + 4294967296) (late o rs (by r v f))) (late o rs (by r v f)) a
past_case true o r s v rs f h a ih =
    swap r s v (o + 4294967296) (late o rs f) h.0 a
    ∙ same_byte s.at s.width s.minus (o + 4294967296) (by r v (late o rs f)) (late o rs (by r v f)) ih a
past_case false o r s v rs f h a ih = ih a

-- one past those that move later
past : (o : ℕ) (r : Relative) (v : ℕ) (rs : List Relative) (f : ℕ → ℕ) → EachFits r rs → (a : ℕ) → by r v (late o rs f) a ≡ late o rs (by r v f) a
past o r v [] f h a = refl
past o r v (s ∷ rs) f h a = past_case s.moves o r s v rs f h a (past o r v rs f h.1)

folds_case : (b : Bool) (o : ℕ) (r : Relative) (rs : List Relative) (f : ℕ → ℕ) → r.width ≤ 4 → EachFits r rs → ((c : ℕ) → whole o rs f c ≡ late o rs (folded rs f) c) → (a : ℕ) → by r (r.value + cond b o 0) (whole o rs f) a ≡ cond b (by r (o + 4294967296) (late o rs (by r r.value (folded rs f)))) (late o rs (by r r.value (folded rs f))) a
folds_case true o r rs f w h ih a =
    let g = folded rs f in
    same_byte r.at r.width r.minus (r.value + o) (whole o rs f) (late o rs g) ih a
    ∙ (split_byte r.at r.width r.minus r.value o (late o rs g) w a
    ∙ same_byte r.at r.width r.minus (o + 4294967296) (by r r.value (late o rs g)) (late o rs (by r r.value g)) (past o r r.value rs g h) a)
folds_case false o r rs f w h ih a =
    let g = folded rs f in
    same_byte r.at r.width r.minus (r.value + 0) (whole o rs f) (late o rs g) ih a
    ∙ (ap (λ v. by r v (late o rs g) a) (add-zero r.value) ∙ past o r r.value rs g h a)

pub folds : (o : ℕ) (rs : List Relative) (f : ℕ → ℕ) → WidthsFit rs → Apart rs → (a : ℕ) → whole o rs f a ≡ late o rs (folded rs f) a
folds o [] f w h a = refl
folds o (r ∷ rs) f w h a = folds_case r.moves o r rs f w.0 h.0 (folds o rs f w.1 h.1) a
