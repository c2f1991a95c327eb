-- Cores come into a pool, and silicon gets what a save says of cores, one after another.
use Rattle.std.specs.Prelude.{◌==◌, ◌&&◌, nat_lt, if◌then◌else◌, slice_get, slice_index}
use Rattle.std.proofs.Common.{◌≡◌, ◌≢◌, ℕ, zero, suc, ◌+◌, ◌<◌, ◌≤◌, Bool, true, false, cond, List, [], ◌∷◌, ◌++◌, Some, length, length-append, get_or, refl, sym, ap, subst, ◌∙◌, arith, inl, inr, ◌⊎◌}
use Rattle.std.proofs.lemmas.Bool.Decides.{nat_tests, eqb_tells}
use Rattle.std.proofs.lemmas.Option.{get_or_from_slice_get}
use Rattle.save_model.specs.declared.parts.SavedCore.{SavedCore}
use Rattle.save_model.specs.declared.parts.SavedCpu.{SavedCpu}
use Rattle.silicon.specs.Chip.{Chip}
use Rattle.silicon.specs.Resumed.{Resumes}
use Rattle.core_states.specs.declared.cores.SpareCore.{SpareCore}
use Rattle.core_states.specs.declared.cores.FencedCore.{FencedCore}
use Rattle.sparing.specs.Pools.{Absent, holds, put}
use Rattle.sparing.proofs.Puts.{holds_put}
use Rattle.core_turns.specs.Held.{CorePool, fenced_number, spare_number}
use Rattle.machine_save.specs.Bringing.{Brought, IsStored, OneMore, PoolTo, Stores, StoresTo, place_in}

-- ---- the pool

none_below : (k p q : ℕ) → cond {A = ℕ} (nat_lt k 0 && (p == q)) 1 0 ≡ 0
none_below k p q = grind (arith, nat_tests)

pub pool_none : (cores : List SavedCore) (p : CorePool) → p ≡ record { spares = []; fenced = [] }
    → PoolTo 0 cores p
pool_none cores p e = record {
  spares = λ k. ap (λ (q : CorePool). holds spare_number k q.spares) e ∙ sym (none_below k (place_in cores k) 2);
  fenced = λ k. ap (λ (q : CorePool). holds fenced_number k q.fenced) e ∙ sym (none_below k (place_in cores k) 3);
}

not_yet : (n p q : ℕ) → cond {A = ℕ} (nat_lt n n && (p == q)) 1 0 ≡ 0
not_yet n p q = grind (arith, nat_tests)

pub pool_absent : (n : ℕ) (cores : List SavedCore) (p : CorePool) → PoolTo n cores p
    → Absent spare_number fenced_number n p
pool_absent n cores p s =
    (s.spares n ∙ not_yet n (place_in cores n) 2, s.fenced n ∙ not_yet n (place_in cores n) 3)

next_by : (n k p p2 q : ℕ) (t : Bool) → (n == k) ≡ t → ((n ≡ k) → p2 ≡ p)
    → (if (n == k) && (p2 == q) then 1 else 0) + (if nat_lt k n && (p == q) then 1 else 0)
    ≡ (if nat_lt k (n + 1) && (p == q) then 1 else 0)
next_by n k p p2 q true e h = let same = h (grind (arith, nat_tests)) in grind (arith, nat_tests)
next_by n k p p2 q false e h = grind (arith, nat_tests)

pub pool_next : (n place : ℕ) (cores : List SavedCore) (p q : CorePool) → place ≡ place_in cores n
    → PoolTo n cores p → OneMore n place p q → PoolTo (n + 1) cores q
pool_next n place cores p q is s more = record {
  spares = λ k.
      more.spares k ∙ ap (λ x. (if (n == k) && (place == 2) then 1 else 0) + x) (s.spares k)
      ∙ next_by n k (place_in cores k) place 2 (n == k) refl (λ e. is ∙ ap (place_in cores) e);
  fenced = λ k.
      more.fenced k ∙ ap (λ x. (if (n == k) && (place == 3) then 1 else 0) + x) (s.fenced k)
      ∙ next_by n k (place_in cores k) place 3 (n == k) refl (λ e. is ∙ ap (place_in cores) e);
}

both_true : (t : Bool) (x : ℕ) → (if t then 1 else 0) + x ≡ (if t && true then 1 else 0) + x
both_true true x = refl
both_true false x = refl

neither : (t : Bool) (x : ℕ) → x ≡ (if t && false then 1 else 0) + x
neither true x = omega arith
neither false x = omega arith

pub spare_more : (n : ℕ) (s : SpareCore) (p q : CorePool) → s.core.0 ≡ n
    → q ≡ record p { spares = put spare_number s p.spares } → OneMore n 2 p q
spare_more n s p q is e = record {
  spares = λ k.
      ap (λ (x : CorePool). holds spare_number k x.spares) e ∙ holds_put spare_number k s p.spares
      ∙ ap (λ c. (if c == k then 1 else 0) + holds spare_number k p.spares) is
      ∙ both_true (n == k) (holds spare_number k p.spares);
  fenced = λ k.
      ap (λ (x : CorePool). holds fenced_number k x.fenced) e
      ∙ neither (n == k) (holds fenced_number k p.fenced);
}

pub fenced_more : (n : ℕ) (f : FencedCore) (p q : CorePool) → f.core.0 ≡ n
    → q ≡ record p { fenced = put fenced_number f p.fenced } → OneMore n 3 p q
fenced_more n f p q is e = record {
  spares = λ k.
      ap (λ (x : CorePool). holds spare_number k x.spares) e
      ∙ neither (n == k) (holds spare_number k p.spares);
  fenced = λ k.
      ap (λ (x : CorePool). holds fenced_number k x.fenced) e ∙ holds_put fenced_number k f p.fenced
      ∙ ap (λ c. (if c == k then 1 else 0) + holds fenced_number k p.fenced) is
      ∙ both_true (n == k) (holds fenced_number k p.fenced);
}

other_place : (t : Bool) (place q x : ℕ) → (place == q) ≡ false
    → x ≡ (if t && (place == q) then 1 else 0) + x
other_place t place q x e = ap (λ b. x) e ∙ neither t x ∙ ap (λ b. (if t && b then 1 else 0) + x) (sym e)

pub none_more : (n place : ℕ) (p : CorePool) → place ≢ 2 → place ≢ 3 → OneMore n place p p
none_more n place p h k = record {
  spares = λ j. other_place (n == j) place 2 (holds spare_number j p.spares) (grind (arith, nat_tests));
  fenced = λ j. other_place (n == j) place 3 (holds fenced_number j p.fenced) (grind (arith, nat_tests));
}

-- ---- the silicon

word_by : (t u : Bool) (x y z : ℕ) → u ≡ true → y ≡ z
    → (if t && u then x else y) ≡ (if t then x else z)
word_by true true x y z e f = refl
word_by true false x y z e f = absurd (cc e)
word_by false u x y z e f = f

inside : (w : ℕ) → w < 40 → nat_lt w 40 ≡ true
inside w h = grind (arith, nat_tests)

pub stored_core : (k : ℕ) (core : SavedCore) (old mid new : Chip) → Resumes k core.begun old mid
    → Stores k core.stored 40 mid new → IsStored k core old new
stored_core k core old mid new r s = record {
  lines = s.lines ∙ r.lines;
  begun = λ c. s.begun c ∙ r.begun c;
  word = λ c w h. s.word c w h
      ∙ word_by (c == k) (nat_lt w 40) (slice_index core.stored w) (mid.word c w) (old.word c w) (inside w h) (r.word c w h);
}

pub stores_none : (cores : List SavedCore) (z : Chip) → ((k : ℕ) → k < 16 → z.begun k ≡ 0)
    → StoresTo 0 cores z z
stores_none cores z h = record {
  lines = refl;
  begun = λ k c lt got. absurd (omega (arith, lt));
  word = λ k w c lt l got. absurd (omega (arith, lt));
  none = λ k low lt. h k lt;
}

below : (k n : ℕ) → k < n + 1 → k ≢ n → k < n
below k n lt ne = grind (arith, nat_tests)

above : (k n : ℕ) → n + 1 ≤ k → (k == n) ≡ false
above k n h = grind (arith, nat_tests)

pub stores_next : (n : ℕ) (cores : List SavedCore) (d : SavedCore) (old mid new : Chip)
    → StoresTo n cores old mid → IsStored n (get_or cores n d) mid new → StoresTo (n + 1) cores old new
stores_next n cores d old mid new s one = record {
  lines = one.lines ∙ s.lines;
  begun = λ k c lt got. elim (eqb_tells k n) [
    | inl p ↦ one.begun k ∙ rw (p.0, p.1) (ap (λ (q : SavedCore). q.begun)
        (get_or_from_slice_get cores n c d (subst (λ j. slice_get cores j ≡ Some c) p.1 got)))
    | inr p ↦ let ne = p.1 in one.begun k ∙ rw (p.0) (s.begun k c (below k n lt ne) got)
  ];
  word = λ k w c lt l got. elim (eqb_tells k n) [
    | inl p ↦ one.word k w l ∙ rw (p.0) (ap (λ (q : SavedCore). slice_index q.stored w)
        (get_or_from_slice_get cores n c d (subst (λ j. slice_get cores j ≡ Some c) p.1 got)))
    | inr p ↦ let ne = p.1 in one.word k w l ∙ rw (p.0) (s.word k w c (below k n lt ne) l got)
  ];
  none = λ k low lt. let ne : (k == n) ≡ false = above k n low in
      one.begun k ∙ rw ne (s.none k (omega (arith, low)) lt);
}

-- ---- the CPUs

last_or : {B : Type 0} (xs : List B) (g x : B) (i : ℕ) → slice_get (xs ++ g ∷ []) i ≡ Some x
    → ((i < length xs) × (slice_get xs i ≡ Some x)) ⊎ ((i ≡ length xs) × (g ≡ x))
last_or [] g x zero e = inr (refl, cc e)
last_or [] g x (suc i) e = absurd (cc e)
last_or (y ∷ ys) g x zero e = inl (omega arith, e)
last_or (y ∷ ys) g x (suc i) e = elim (last_or ys g x i e) [
  | inl p ↦ let l = p.0 in inl (omega (arith, l), p.1)
  | inr p ↦ inr (ap suc p.0, p.1)
]

pub brought_none : {B : Type 0} (P : SavedCpu → B → Type 0) (cpus : List SavedCpu) (xs : List B)
    → xs ≡ [] → Brought P cpus 0 xs
brought_none {B = B} P cpus xs e = record {
  long = ap length e;
  each = λ j c x got at. absurd (cc (ap (λ (q : List B). slice_get q j) (sym e) ∙ at));
}

pub brought_next : {B : Type 0} (P : SavedCpu → B → Type 0) (cpus : List SavedCpu) (n : ℕ)
    (xs ys : List B) (x : B) (d : SavedCpu) → Brought P cpus n xs → P (get_or cpus n d) x
    → ys ≡ xs ++ x ∷ [] → Brought P cpus (n + 1) ys
brought_next {B = B} P cpus n xs ys x d s one e = record {
  long = ap length e ∙ length-append xs (x ∷ []) ∙ ap (λ k. k + 1) s.long;
  each = λ j c y got at. elim (last_or xs x y j (ap (λ (q : List B). slice_get q j) (sym e) ∙ at)) [
    | inl p ↦ s.each j c y got p.1
    | inr p ↦ subst (λ q. P c q) p.1 (subst (λ q. P q x)
        (get_or_from_slice_get cpus n c d
        (subst (λ k. slice_get cpus k ≡ Some c) (p.0 ∙ s.long) got)) one)
  ];
}
