-- The cause of a failure, from what an attempt finds; and what it gives where there is none.
use Rattle.std.proofs.Common.{◌≡◌, ℕ, ◌-◌, ◌<◌, Bool, true, false, List, length, Option, Some, None, refl, sym, ap, ◌∙◌, subst, arith, zero, suc, eqb, inl, inr}
use Rattle.std.specs.Prelude.{not, ◌&&◌}
use Rattle.std.specs.Option.{is_some}
use Rattle.std.proofs.lemmas.Bool.{cases_eq}
use Rattle.std.proofs.lemmas.Bool.Decides.{nat_tests}
use Rattle.esa_model.specs.declared.machine.Registers.{Registers}
use Rattle.esa_model.specs.Line.{Side}
use Rattle.run_model.specs.declared.faults.Cause.TheVariants.{Fetch, Mismatch, Store}
use Rattle.run_model.specs.declared.faults.Strike.{Strike}
use Rattle.run_model.specs.declared.faults.Unit.{Unit}
use Rattle.run_model.specs.declared.faults.Unit.TheVariants.{A, B}
use Rattle.run_model.specs.Strikes.{mask_byte, fetch_bit, store_bit, same_masks, same_below, cause, cause_by}
use Rattle.silicon.specs.Chip.{Chip, Stays, last, masked}
use Rattle.silicon.proofs.Masked.{told_apart, told_alike, told_none}
use Rattle.core_states.specs.Trial.{Setting, setting, packet_due, IsStepAt, bytes_in}
use Rattle.core_states.specs.Tried.{PassedBoth, TriedAs, TriedSteps}
use Rattle.core_states.specs.declared.tried.Tried.TheVariants.{Done}

-- ---- by cases

cause_fetch : (o p : Option ℕ) (same : Bool) → not (is_some o) ≡ false
    → cause_by o same p ≡ Some Fetch
cause_fetch None p same e = absurd cc
cause_fetch (Some b) p same e = refl

cause_mismatch : (o p : Option ℕ) (same : Bool) → not (is_some o) ≡ true → same ≡ false
    → cause_by o same p ≡ Some Mismatch
cause_mismatch None p same e h = rw h refl
cause_mismatch (Some b) p same e h = absurd cc

cause_store : (o p : Option ℕ) (same : Bool) → not (is_some o) ≡ true → same ≡ true
    → not (is_some p) ≡ false → cause_by o same p ≡ Some Store
cause_store None None same e h g = absurd cc
cause_store None (Some q) same e h g = rw h refl
cause_store (Some b) p same e h g = absurd cc

cause_none : (o p : Option ℕ) (same : Bool) → not (is_some o) ≡ true → same ≡ true
    → not (is_some p) ≡ true → cause_by o same p ≡ None
cause_none None None same e h g = rw h refl
cause_none None (Some q) same e h g = absurd cc
cause_none (Some b) p same e h g = absurd cc

-- ---- masks that are the same

same_from_all : (n : ℕ) (f g : ℕ → ℕ) → ((k : ℕ) → k < n → f k ≡ g k) → same_below n f g ≡ true
same_from_all zero f g h = refl
same_from_all (suc n) f g h =
    let e : eqb (f n) (g n) ≡ true = (let q = h n (omega arith) in grind (arith, nat_tests)) in
    rw e (same_from_all n f g (λ k l. h k (omega arith)))

and_left : (a b : Bool) → (a && b) ≡ true → a ≡ true
and_left true b e = refl
and_left false b e = e

and_right : (a b : Bool) → (a && b) ≡ true → b ≡ true
and_right true b e = e
and_right false b e = absurd cc

all_from_same : (n : ℕ) (f g : ℕ → ℕ) → same_below n f g ≡ true → (k : ℕ) → k < n → f k ≡ g k
all_from_same zero f g e k h = absurd (omega arith)
all_from_same (suc n) f g e k h = elim (cases_eq k n) [
  | inl q ↦ let here : eqb (f n) (g n) ≡ true = and_left (eqb (f n) (g n)) (same_below n f g) e in
      subst (λ i. f i ≡ g i) (sym q) (grind (arith, nat_tests))
  | inr ne ↦ all_from_same n f g (and_right (eqb (f n) (g n)) (same_below n f g) e) k (omega arith)
]

bool_cases : (b : Bool) → (b ≡ true → ⊥) → b ≡ false
bool_cases true h = absurd (h refl)
bool_cases false h = refl

masks_same : (ls : List Strike) (c n : ℕ) (p : List ℕ) → length p ≡ 512
    → masked (mask_byte ls c A n) 0 p ≡ masked (mask_byte ls c B n) 0 p → same_masks ls c n ≡ true
unfolding same_masks
masks_same ls c n p long e =
    same_from_all 512 (mask_byte ls c A n) (mask_byte ls c B n)
    (λ j h. told_apart (mask_byte ls c A n) (mask_byte ls c B n) p e j (omega (arith, h, long)))

masks_differ : (ls : List Strike) (c n : ℕ) (p : List ℕ) → length p ≡ 512
    → (masked (mask_byte ls c A n) 0 p ≡ masked (mask_byte ls c B n) 0 p → ⊥)
    → same_masks ls c n ≡ false
unfolding same_masks
masks_differ ls c n p long ne =
    bool_cases (same_below 512 (mask_byte ls c A n) (mask_byte ls c B n))
    (λ e. ne (told_alike (mask_byte ls c A n) (mask_byte ls c B n) p
    (λ j h. all_from_same 512 (mask_byte ls c A n) (mask_byte ls c B n) e j (omega (arith, h, long)))))

-- ---- what an attempt finds

said : (o : Option (List ℕ)) (a p : List ℕ) → o ≡ Some a → bytes_in o ≡ p → a ≡ p
said o a p is e = sym (ap bytes_in is) ∙ e

pub tried_fetch : (ls : List Strike) (c n : ℕ) → not (is_some (fetch_bit ls c n)) ≡ false
    → cause ls c n ≡ Some Fetch
unfolding cause
tried_fetch ls c n h = cause_fetch (fetch_bit ls c n) (store_bit ls c n) (same_masks ls c n) h

pub tried_mismatch : (ls : List Strike) (c n : ℕ) (la lb o : Option (List ℕ)) (p : List ℕ)
    → not (is_some (fetch_bit ls c n)) ≡ true
    → PassedBoth (mask_byte ls c A n) (mask_byte ls c B n) la lb o → o ≡ None
    → bytes_in la ≡ p → bytes_in lb ≡ p → cause ls c n ≡ Some Mismatch
unfolding cause
tried_mismatch ls c n la lb o p h both e ia ib =
    let a : both.a ≡ p = said la both.a p both.is_a ia in
    let b : both.b ≡ p = said lb both.b p both.is_b ib in
    let none : masked (mask_byte ls c A n) 0 both.a ≡ masked (mask_byte ls c B n) 0 both.b → ⊥ = rw e at both.none in
    let ne : masked (mask_byte ls c A n) 0 p ≡ masked (mask_byte ls c B n) 0 p → ⊥ = rw (a, b) at none in
    let long : length p ≡ 512 = ap length (sym a) ∙ both.long in
    cause_mismatch (fetch_bit ls c n) (store_bit ls c n) (same_masks ls c n) h (masks_differ ls c n p long ne)

agreed : (ls : List Strike) (c n : ℕ) (la lb : Option (List ℕ)) (q p : List ℕ)
    → PassedBoth (mask_byte ls c A n) (mask_byte ls c B n) la lb (Some q)
    → bytes_in la ≡ p → bytes_in lb ≡ p
    → (same_masks ls c n ≡ true) × (q ≡ masked (mask_byte ls c A n) 0 p)
agreed ls c n la lb q p both ia ib =
    let a : both.a ≡ p = said la both.a p both.is_a ia in
    let b : both.b ≡ p = said lb both.b p both.is_b ib in
    let is = both.some in
    let same : masked (mask_byte ls c A n) 0 p ≡ masked (mask_byte ls c B n) 0 p =
    sym (ap (masked (mask_byte ls c A n) 0) a) ∙ is.1 ∙ ap (masked (mask_byte ls c B n) 0) b in
    let long : length p ≡ 512 = ap length (sym a) ∙ both.long in
    (masks_same ls c n p long same, is.0 ∙ ap (masked (mask_byte ls c A n) 0) a)

pub tried_store : (ls : List Strike) (c n : ℕ) (la lb : Option (List ℕ)) (q p : List ℕ)
    → not (is_some (fetch_bit ls c n)) ≡ true → not (is_some (store_bit ls c n)) ≡ false
    → PassedBoth (mask_byte ls c A n) (mask_byte ls c B n) la lb (Some q)
    → bytes_in la ≡ p → bytes_in lb ≡ p → cause ls c n ≡ Some Store
unfolding cause
tried_store ls c n la lb q p h g both ia ib =
    let k = agreed ls c n la lb q p both ia ib in
    cause_store (fetch_bit ls c n) (store_bit ls c n) (same_masks ls c n) h k.0 g

pub tried_done : (ls : List Strike) (c n : ℕ) (la lb : Option (List ℕ)) (q p : List ℕ)
    → not (is_some (fetch_bit ls c n)) ≡ true → not (is_some (store_bit ls c n)) ≡ true
    → PassedBoth (mask_byte ls c A n) (mask_byte ls c B n) la lb (Some q)
    → bytes_in la ≡ p → bytes_in lb ≡ p → TriedAs ls c n p (Done q)
unfolding cause
tried_done ls c n la lb q p h g both ia ib =
    let k = agreed ls c n la lb q p both ia ib in
    (cause_none (fetch_bit ls c n) (store_bit ls c n) (same_masks ls c n) h k.0 g, k.1)

pub tried_steps : (ls : List Strike) (c n : ℕ) (s : Setting) (la lb : Option (List ℕ)) (q : List ℕ)
    → PassedBoth (mask_byte ls c A n) (mask_byte ls c B n) la lb (Some q)
    → IsStepAt s (bytes_in la) → TriedSteps ls c n s (Done q)
tried_steps ls c n s la lb q both step empty =
    let a : both.a ≡ bytes_in la = sym (ap bytes_in both.is_a) in
    let is = both.some in
    let none = told_none (mask_byte ls c A n) both.a (λ j h. let long = both.long in empty j (omega (arith, h, long))) in
    let same : bytes_in la ≡ q = sym (is.0 ∙ none ∙ a) in
    subst (λ p. IsStepAt s p) same step

-- ---- the same of chips that follow one another

passed_at : (f g h k : ℕ → ℕ) (la lb o : Option (List ℕ)) → f ≡ h → g ≡ k
    → PassedBoth f g la lb o → PassedBoth h k la lb o
passed_at f g h k la lb o e d both =
    subst (λ x. PassedBoth h x la lb o) d (subst (λ x. PassedBoth x g la lb o) e both)

mask_stays : (z x : Chip) (c : ℕ) (u : Unit) → Stays z x
    → mask_byte x.lines c u (last x c) ≡ mask_byte z.lines c u (last z c)
mask_stays z x c u s =
    ap (λ ls. mask_byte ls c u (last x c)) s.lines
    ∙ ap (λ n. mask_byte z.lines c u (n - 1)) (s.begun c)

store_stays : (z x : Chip) (c : ℕ) → Stays z x
    → store_bit x.lines c (last x c) ≡ store_bit z.lines c (last z c)
store_stays z x c s =
    ap (λ ls. store_bit ls c (last x c)) s.lines
    ∙ ap (λ n. store_bit z.lines c (n - 1)) (s.begun c)

passed_before : (z x : Chip) (c : ℕ) (la lb o : Option (List ℕ)) → Stays z x
    → PassedBoth (mask_byte x.lines c A (last x c)) (mask_byte x.lines c B (last x c)) la lb o
    → PassedBoth (mask_byte z.lines c A (last z c)) (mask_byte z.lines c B (last z c)) la lb o
passed_before z x c la lb o s both =
    passed_at _ _ _ _ la lb o (mask_stays z x c A s) (mask_stays z x c B s) both

pub steps_found : (z x : Chip) (c : ℕ) (s : Setting) (la lb : Option (List ℕ)) (q : List ℕ)
    → Stays z x
    → PassedBoth (mask_byte x.lines c A (last x c)) (mask_byte x.lines c B (last x c)) la lb (Some q)
    → IsStepAt s (bytes_in la) → TriedSteps z.lines c (last z c) s (Done q)
steps_found z x c s la lb q stays both step =
    tried_steps z.lines c (last z c) s la lb q (passed_before z x c la lb (Some q) stays both) step

pub store_found : (z x y : Chip) (c : ℕ) (la lb : Option (List ℕ)) (q p : List ℕ) (f s : Bool)
    → Stays z x → Stays x y
    → f ≡ not (is_some (fetch_bit z.lines c (last z c))) → f ≡ true
    → s ≡ not (is_some (store_bit y.lines c (last y c))) → s ≡ false
    → PassedBoth (mask_byte x.lines c A (last x c)) (mask_byte x.lines c B (last x c)) la lb (Some q)
    → bytes_in la ≡ p → bytes_in lb ≡ p → cause z.lines c (last z c) ≡ Some Store
store_found z x y c la lb q p f s first then fetched good stored bad both ia ib =
    let same : store_bit y.lines c (last y c) ≡ store_bit z.lines c (last z c) =
    store_stays x y c then ∙ store_stays z x c first in
    tried_store z.lines c (last z c) la lb q p (sym fetched ∙ good)
    (ap (λ o. not (is_some o)) (sym same) ∙ sym stored ∙ bad)
    (passed_before z x c la lb (Some q) first both) ia ib

-- ---- of storages that are the same

pub due_there : (r : Registers) (i : ℕ) (v w : List ℕ) (side : Side) (p : List ℕ) → v ≡ w
    → p ≡ packet_due (setting r i v side) → p ≡ packet_due (setting r i w side)
due_there r i v w side p e h = subst (λ x. p ≡ packet_due (setting r i x side)) e h

pub step_there : (r : Registers) (i : ℕ) (v w : List ℕ) (side : Side) (p : List ℕ) → v ≡ w
    → IsStepAt (setting r i v side) p → IsStepAt (setting r i w side) p
step_there r i v w side p e h = subst (λ x. IsStepAt (setting r i x side) p) e h
