use Rattle.std.proofs.Common.{◌≡◌, ℕ, ◌+◌, ◌%◌, ◌<◌, Bool, true, false, cond, ◌&&◌, eqb, leb, ltb, List, [], ◌∷◌, refl, ap, sym, subst, ◌∙◌, arith}
use Rattle.std.specs.List.{count_by, flat_map}
use Rattle.std.specs.List.Sorted.{IsPermutation}
use Rattle.std.specs.Prelude.{Some, None, ◌↔◌}
use Rattle.std.proofs.lemmas.List.Sums.{sum_by-append}
use Rattle.std.proofs.lemmas.List.Sorted.{sum_by-IsPermutation}
use Rattle.std.proofs.lemmas.Bool.Decides.{nat_tests}
use Rattle.run_model.specs.declared.faults.Unit.{Unit}
use Rattle.run_model.specs.declared.faults.Unit.TheVariants.{A, B}
use Rattle.fault_script.specs.declared.masks.Change.{Change}
use Rattle.run_model.specs.declared.faults.Strike.{Strike}
use Rattle.run_model.specs.declared.faults.Strike.TheVariants.{Packet, Fetch, Store, Word}
use Rattle.run_model.specs.Premise.{hits_packet, mask, GoodMasks}
use Rattle.fault_script.specs.Changes.{changes_of, by_then, changed, GoodChanges}

-- a line that counts covers an attempt where one of its two changes is past
ends : (p : Bool) (first k n : ℕ) → (0 + cond (p && leb first n) 1 0 + cond (p && leb (first + k) n) 1 0) % 2 ≡ (0 + cond (p && (leb first n && ltb n (first + k))) 1 0) % 2
ends true first k n = grind (arith, nat_tests)
ends false first k n = refl

one : (s : Strike) (c : ℕ) (u : Unit) (b n : ℕ) → count_by (by_then c u b n) (changes_of s) % 2 ≡ count_by (hits_packet c u n b) (s ∷ []) % 2
one (Packet core first unit bit None) c u b n = refl
one (Packet core first unit bit (Some k)) c u b n = ends _ first k n
one (Fetch core first bit) c u b n = refl
one (Store core first bit) c u b n = refl
one (Word core first word bit) c u b n = refl

pub parity : (ss : List Strike) (c : ℕ) (u : Unit) (b n : ℕ) → count_by (by_then c u b n) (flat_map changes_of ss) % 2 ≡ count_by (hits_packet c u n b) ss % 2
parity [] c u b n = refl
parity (s ∷ ss) c u b n =
    let x = sum_by-append (λ (y : Change). cond (by_then c u b n y) 1 0) (changes_of s) (flat_map changes_of ss) in
    let y = sum_by-append (λ (y : Strike). cond (hits_packet c u n b y) 1 0) (s ∷ []) ss in
    let o = one s c u b n in
    let r = parity ss c u b n in
    omega arith

pub mask_is : (ss : List Strike) (cs : List Change) (c : ℕ) (u : Unit) (n b : ℕ) → IsPermutation (flat_map changes_of ss) cs → mask ss c u n b ≡ changed cs c u n b
mask_is ss cs c u n b perm =
    let s = sum_by-IsPermutation (λ (y : Change). cond (by_then c u b n y) 1 0) (flat_map changes_of ss) cs perm in
    let e : count_by (hits_packet c u n b) ss % 2 ≡ count_by (by_then c u b n) cs % 2 = sym (parity ss c u b n) ∙ ap (λ k. k % 2) (sym s) in
    ap (λ k. eqb k 1) e

pub good_is : (ss : List Strike) (cs : List Change) (c n : ℕ) → IsPermutation (flat_map changes_of ss) cs → GoodMasks ss c n ↔ GoodChanges cs c n
good_is ss cs c n perm = (
  (λ g same b lt. sym (mask_is ss cs c A n b perm) ∙ g (λ k l. mask_is ss cs c A n k perm ∙ same k l ∙ sym (mask_is ss cs c B n k perm)) b lt),
  (λ g same b lt. mask_is ss cs c A n b perm ∙ g (λ k l. sym (mask_is ss cs c A n k perm) ∙ same k l ∙ mask_is ss cs c B n k perm) b lt),
)

pub all_is : (ss : List Strike) (cs now : List Change) (r : Bool) → IsPermutation (flat_map changes_of ss) cs → now ≡ cs → (r ≡ true) ↔ ((c n : ℕ) → c < 16 → GoodChanges now c n) → (r ≡ true) ↔ ((c n : ℕ) → c < 16 → GoodMasks ss c n)
all_is ss cs now r perm same is =
    let P : List Change → Type 0 = λ z. IsPermutation (flat_map changes_of ss) z in
    let here : IsPermutation (flat_map changes_of ss) now = subst P (sym same) perm in
    (λ h c n lt. (good_is ss now c n here).1 (is.0 h c n lt), λ h. is.1 (λ c n lt. (good_is ss now c n here).0 (h c n lt)))
