use Rattle.std.proofs.Common.{◌≡◌, ◌≢◌, ℕ, zero, suc, ◌+◌, ◌<◌, ◌≤◌, Bool, true, false, not, cond, ◌&&◌, eqb, leb, ltb, List, [], ◌∷◌, length, take, set, get_or, get_or-set_same, get_or-set_other, length-set, refl, ap, sym, subst, ◌∙◌, arith, inl, inr}
use Rattle.std.specs.List.{count_by}
use Rattle.std.specs.List.Sorted.{IsNonDecreasingBy}
use Rattle.std.proofs.lemmas.List.Sums.{sum_by-cons, sum_by_more}
use Rattle.std.proofs.lemmas.Bool.{cases_eq}
use Rattle.std.proofs.lemmas.Bool.Decides.{nat_tests}
use Rattle.run_model.specs.declared.faults.Unit.{Unit}
use Rattle.run_model.specs.declared.faults.Unit.TheVariants.{A, B}
use Rattle.fault_script.specs.declared.masks.Change.{Change}
use Rattle.run_model.specs.Premise.{same_unit}
use Rattle.fault_script.specs.Changes.{by_then, changed, odd, GoodChanges, on, at_bit, at_of, nothing, at_place, NoneSet, flipped}

-- ---- counts of sorted changes
pub count_prefix : (p q : Change → Bool) (cs : List Change) (m : ℕ) → ((k : ℕ) → k < m → k < length cs → p (get_or cs k nothing) ≡ q (get_or cs k nothing)) → ((k : ℕ) → m ≤ k → k < length cs → p (get_or cs k nothing) ≡ false) → count_by p cs ≡ count_by q (take m cs)
count_prefix p q [] zero f g = refl
count_prefix p q [] (suc m) f g = refl
count_prefix p q (x ∷ xs) zero f g =
    let v : p x ≡ false = g 0 (omega arith) (omega arith) in
    let r = count_prefix p q xs zero (λ k h l. absurd (omega arith)) (λ k h l. g (suc k) (omega arith) (omega arith)) in
    let s = sum_by-cons (λ (y : Change). cond (p y) 1 0) x xs in
    let w : cond {A = ℕ} (p x) 1 0 ≡ 0 = rw v refl in
    omega arith
count_prefix p q (x ∷ xs) (suc m) f g =
    let v : p x ≡ q x = f 0 (omega arith) (omega arith) in
    let r = count_prefix p q xs m (λ k h l. f (suc k) (omega arith) (omega arith)) (λ k h l. g (suc k) (omega arith) (omega arith)) in
    let s = sum_by-cons (λ (y : Change). cond (p y) 1 0) x xs in
    let t = sum_by-cons (λ (y : Change). cond (q y) 1 0) x (take m xs) in
    let w : cond {A = ℕ} (p x) 1 0 ≡ cond {A = ℕ} (q x) 1 0 = ap (λ (z : Bool). cond z 1 0) v in
    omega arith

early : (t : Bool) (a n : ℕ) → a ≤ n → (t && leb a n) ≡ t
early true a n h = grind (arith, nat_tests)
early false a n h = refl

late : (t : Bool) (a n : ℕ) → n < a → (t && leb a n) ≡ false
late true a n h = grind (arith, nat_tests)
late false a n h = refl

-- an attempt from the one at i on, before the next one
pub record IsBetween (cs : List Change) (i n : ℕ) : Type 0 where
  pub inside : i < length cs
  pub low : at_place cs i ≤ n
  pub high : i + 1 < length cs → n < at_place cs (i + 1)

pub counts_are : (cs : List Change) (i n c : ℕ) (u : Unit) (b : ℕ) → IsNonDecreasingBy at_of cs → IsBetween cs i n → count_by (by_then c u b n) cs ≡ count_by (on c u b) (take (i + 1) cs)
counts_are cs i n c u b sorted between =
    count_prefix (by_then c u b n) (on c u b) cs (i + 1)
    (λ k h l. let s = sorted k i nothing (omega arith) between.inside in early (on c u b (get_or cs k nothing)) (at_place cs k) n (omega (arith, between.low)))
    (λ k h l. let s = sorted (i + 1) k nothing h l in late (on c u b (get_or cs k nothing)) (at_place cs k) n (omega (arith, between.high (omega arith))))

pub counts_none : (cs : List Change) (n c : ℕ) (u : Unit) (b : ℕ) → IsNonDecreasingBy at_of cs → (0 < length cs → n < at_place cs 0) → count_by (by_then c u b n) cs ≡ 0
counts_none cs n c u b sorted first =
    count_prefix (by_then c u b n) (on c u b) cs 0
    (λ k h l. absurd (omega arith))
    (λ k h l. let s = sorted 0 k nothing h l in late (on c u b (get_or cs k nothing)) (at_place cs k) n (omega (arith, first (omega arith))))

-- ---- both units
unit_step : (u : Unit) (p q : Bool) → cond ((p && same_unit u A) && q) 1 0 + cond ((p && same_unit u B) && q) 1 0 ≡ cond (p && q) 1 0
unit_step A true true = refl
unit_step A true false = refl
unit_step A false q = refl
unit_step B true true = refl
unit_step B true false = refl
unit_step B false q = refl

pub both_units : (c b : ℕ) (cs : List Change) → count_by (on c A b) cs + count_by (on c B b) cs ≡ count_by (at_bit c b) cs
both_units c b [] = refl
both_units c b (x ∷ xs) =
    let r = both_units c b xs in
    let s = sum_by-cons (λ (y : Change). cond (on c A b y) 1 0) x xs in
    let t = sum_by-cons (λ (y : Change). cond (on c B b y) 1 0) x xs in
    let w = sum_by-cons (λ (y : Change). cond (at_bit c b y) 1 0) x xs in
    let v = unit_step x.unit (eqb x.core c) (eqb x.bit b) in
    omega arith

alike : (p q d : ℕ) → p + q ≡ d → odd d ≡ false → odd p ≡ odd q
alike p q d e h = grind (arith, nat_tests)

unalike : (p q d : ℕ) → p + q ≡ d → odd p ≡ odd q → odd d ≡ false
unalike p q d e h = grind (arith, nat_tests)

-- ---- the sets after the first i changes
pub record Swept (cs : List Change) (c i : ℕ) (struck unlike : List Bool) : Type 0 where
  pub struck_size : length struck ≡ 4096
  pub unlike_size : length unlike ≡ 4096
  pub struck_is : (b : ℕ) → b < 4096 → get_or struck b false ≡ odd (count_by (on c A b) (take i cs))
  pub unlike_is : (b : ℕ) → b < 4096 → get_or unlike b false ≡ odd (count_by (at_bit c b) (take i cs))

-- at an attempt at which the sets stand, equal masks are empty exactly where no unlike bits give no struck ones
pub good_at : (cs : List Change) (c i n : ℕ) (struck unlike : List Bool) → IsNonDecreasingBy at_of cs → Swept cs c (i + 1) struck unlike → IsBetween cs i n → (NoneSet unlike → NoneSet struck) → GoodChanges cs c n
good_at cs c i n struck unlike sorted swept between test same b lt =
    let a = counts_are cs i n c A b sorted between in
    let none : NoneSet unlike = λ k l.
    let x = counts_are cs i n c A k sorted between in
    let y = counts_are cs i n c B k sorted between in
    let both = both_units c k (take (i + 1) cs) in
    swept.unlike_is k l ∙ unalike (count_by (on c A k) (take (i + 1) cs)) (count_by (on c B k) (take (i + 1) cs)) _ both (ap odd (sym x) ∙ same k l ∙ ap odd y)
    in
    ap odd a ∙ sym (swept.struck_is b lt) ∙ test none b lt

pub bad_at : (cs : List Change) (c i n : ℕ) (struck unlike : List Bool) → IsNonDecreasingBy at_of cs → Swept cs c (i + 1) struck unlike → IsBetween cs i n → GoodChanges cs c n → NoneSet unlike → NoneSet struck
bad_at cs c i n struck unlike sorted swept between good none b lt =
    let a = counts_are cs i n c A b sorted between in
    let same : (k : ℕ) → k < 4096 → changed cs c A n k ≡ changed cs c B n k = λ k l.
    let x = counts_are cs i n c A k sorted between in
    let y = counts_are cs i n c B k sorted between in
    let both = both_units c k (take (i + 1) cs) in
    ap odd x ∙ alike (count_by (on c A k) (take (i + 1) cs)) (count_by (on c B k) (take (i + 1) cs)) _ both (sym (swept.unlike_is k l) ∙ none k l) ∙ ap odd (sym y)
    in
    swept.struck_is b lt ∙ ap odd (sym a) ∙ good same b lt

pub good_before : (cs : List Change) (c n : ℕ) → IsNonDecreasingBy at_of cs → (0 < length cs → n < at_place cs 0) → GoodChanges cs c n
good_before cs c n sorted first same b lt = ap odd (counts_none cs n c A b sorted first)

-- ---- one more change
odd_more : (k : ℕ) → odd (k + 1) ≡ not (odd k)
odd_more k = grind (arith, nat_tests)

kept : (s : List Bool) (j b k : ℕ) (t : Bool) → b ≢ j → get_or s b false ≡ odd (k + 0) → get_or (cond t (set s j (not (get_or s j false))) s) b false ≡ odd (k + 0)
kept s j b k true ne e = get_or-set_other s j b (not (get_or s j false)) false ne ∙ e
kept s j b k false ne e = e

flip_one : (s : List Bool) (hit : Bool) (j b k : ℕ) → length s ≡ 4096 → b < 4096 → get_or s b false ≡ odd k → get_or (flipped s hit j) b false ≡ odd (k + cond (hit && eqb j b) 1 0)
flip_one s false j b k len lt e = e ∙ ap odd (omega arith)
flip_one s true j b k len lt e = elim (cases_eq j b) [
  | inl same ↦
      let t : eqb j b ≡ true = grind (arith, nat_tests) in
      let l : ltb j (length s) ≡ true = grind (arith, nat_tests) in
      let w : j < length s = omega arith in
      let is : get_or (set s j (not (get_or s j false))) b false ≡ not (get_or s b false) = ap (λ i. get_or (set s j (not (get_or s j false))) i false) (sym same) ∙ get_or-set_same s j (not (get_or s j false)) false w ∙ ap (λ i. not (get_or s i false)) same in
      rw l (rw t (is ∙ ap not e ∙ sym (odd_more k)))
  | inr other ↦
      let t : eqb j b ≡ false = grind (arith, nat_tests) in
      let ne : b ≢ j = λ q. other (sym q) in
      let z : k ≡ k + 0 = omega arith in
      rw t (kept s j b k (ltb j (length s)) ne (e ∙ ap odd z))
]

step : (p : Change → Bool) (cs : List Change) (i b : ℕ) (s : List Bool) (hit : Bool) (x : Change) → i < length cs → x ≡ get_or cs i nothing → p x ≡ (hit && eqb x.bit b) → length s ≡ 4096 → b < 4096 → get_or s b false ≡ odd (count_by p (take i cs)) → get_or (flipped s hit x.bit) b false ≡ odd (count_by p (take (i + 1) cs))
step p cs i b s hit x lt is same len small e =
    let more = sum_by_more (λ (y : Change). cond (p y) 1 0) cs i nothing lt in
    let v : cond {A = ℕ} (p (get_or cs i nothing)) 1 0 ≡ cond {A = ℕ} (hit && eqb x.bit b) 1 0 = ap (λ (y : Change). cond {A = ℕ} (p y) 1 0) (sym is) ∙ ap (λ (z : Bool). cond {A = ℕ} z 1 0) same in
    flip_one s hit x.bit b (count_by p (take i cs)) len small e ∙ ap odd (ap (λ z. count_by p (take i cs) + z) (sym v) ∙ sym more)

length_if : (s : List Bool) (j : ℕ) (t : Bool) → length (cond t (set s j (not (get_or s j false))) s) ≡ length s
length_if s j true = simp length-set
length_if s j false = refl

length_flipped : (s : List Bool) (hit : Bool) (j : ℕ) → length (flipped s hit j) ≡ length s
length_flipped s true j = length_if s j (ltb j (length s))
length_flipped s false j = refl

pub swept_more : (cs : List Change) (c i : ℕ) (struck unlike : List Bool) (x : Change) → Swept cs c i struck unlike → i < length cs → x ≡ get_or cs i nothing → Swept cs c (i + 1) (flipped struck (eqb x.core c && same_unit x.unit A) x.bit) (flipped unlike (eqb x.core c) x.bit)
swept_more cs c i struck unlike x swept lt is = record {
  struck_size = length_flipped struck (eqb x.core c && same_unit x.unit A) x.bit ∙ swept.struck_size;
  unlike_size = length_flipped unlike (eqb x.core c) x.bit ∙ swept.unlike_size;
  struck_is = λ b small. step (on c A b) cs i b struck (eqb x.core c && same_unit x.unit A) x lt is refl swept.struck_size small (swept.struck_is b small);
  unlike_is = λ b small. step (at_bit c b) cs i b unlike (eqb x.core c) x lt is refl swept.unlike_size small (swept.unlike_is b small);
}

-- in the names of the loop
pub swept_by : (cs : List Change) (c i : ℕ) (struck unlike after afters : List Bool) (hit : Bool) (j k : ℕ) → Swept cs c i struck unlike → i < length cs → after ≡ flipped struck hit j → hit ≡ (eqb (get_or cs i nothing).core c && same_unit (get_or cs i nothing).unit A) → j ≡ (get_or cs i nothing).bit → afters ≡ flipped unlike (eqb (get_or cs i nothing).core c) k → k ≡ (get_or cs i nothing).bit → Swept cs c (i + 1) after afters
swept_by cs c i struck unlike after afters hit j k swept lt is hits bit also other =
    let x = get_or cs i nothing in
    let h = eqb x.core c && same_unit x.unit A in
    let one : after ≡ flipped struck h x.bit = is ∙ ap (λ t. flipped struck t j) hits ∙ ap (flipped struck h) bit in
    let two : afters ≡ flipped unlike (eqb x.core c) x.bit = also ∙ ap (flipped unlike (eqb x.core c)) other in
    let P : List Bool → Type 0 = λ z. Swept cs c (i + 1) z (flipped unlike (eqb x.core c) x.bit) in
    let Q : List Bool → Type 0 = λ z. Swept cs c (i + 1) after z in
    subst Q (sym two) (subst P (sym one) (swept_more cs c i struck unlike x swept lt refl))
