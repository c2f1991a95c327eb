-- What is remembered after one entry more, and how it judges the next.
use Rattle.std.proofs.Common.{◌≡◌, ◌⊎◌, ℕ, zero, suc, ◌+◌, ◌-◌, ◌<◌, ◌≤◌, Bool, true, false, List, [], ◌∷◌, Option, Some, None, refl, sym, ap, ◌∙◌, arith, if◌then◌else◌, inl, inr, leb-true, leb-false, eqb-true, eq-eqb, get_or, length}
use Rattle.std.specs.Prelude.{◌==◌, ◌&&◌, ◌||◌, not, nat_lt, nat_le, slice_get, slice_set, slice_index, replicate}
use Rattle.std.proofs.lemmas.Option.{get_or_from_slice_get, slice_get-get_or}
use Rattle.std.proofs.lemmas.List.{get_or-set_other, length-set}
use Rattle.std.proofs.lemmas.Grind.{get_or-set_at}
use Rattle.std.proofs.lemmas.Bool.{cases_eq, false≢true, false_from_ne_true, ltb-true, ne_eqb}
use Rattle.run_model.specs.declared.logs.What.{What}
use Rattle.run_model.specs.declared.logs.What.TheVariants as what
use Rattle.run_model.specs.declared.logs.Entry.{Entry}
use Rattle.run_model.specs.declared.logs.Config.{Config}
use Rattle.run_model.specs.Cores.{is_spare_number, lowest}
use Rattle.run_model.specs.Sorts.{is_fence, is_returned, is_spared_to}
use Rattle.run_model.specs.Lawful.{Meets, after_fence, allows, back, bit, core_at, core_by, core_ok, fence, fences, gone, has_stop, is_some_of, on_hand, spared_ok}
use Rattle.program_model.specs.declared.refusals.AuditRefusal.{AuditRefusal}
use Rattle.log_audit.specs.declared.memory.KnownCpu.{KnownCpu}
use Rattle.log_audit.specs.declared.memory.Memory.{Memory}
use Rattle.log_audit.specs.Points.{first_failed, points}
use Rattle.log_audit.specs.Remembered.{hand, known, learn, no_turn, points_by, recall, recent, unknown}
use Rattle.log_audit.specs.Remembers.{Remembers}
use Rattle.log_audit.proofs.Agreeing.{far_same, judged_same}
use Rattle.log_audit.proofs.Truths.{and_l, and_r}
use Rattle.log_audit.proofs.Turned.{turn_ok_le}

-- ---- the lowest of a set

below_by :
    (f : ℕ → Bool) (a n k : ℕ) (b : Bool) → (lowest f (a + 1) n ≡ Some k → k < a + 1 + n)
    → (if b then Some a else lowest f (a + 1) n) ≡ Some k → k < a + suc n
below_by f a n k true ih h = let same : a ≡ k = cc h in omega (arith, same)
below_by f a n k false ih h = let lt = ih h in omega (arith, lt)

pub lowest_below : (f : ℕ → Bool) (a n k : ℕ) → lowest f a n ≡ Some k → k < a + n
lowest_below f a zero k h = absurd (cc h)
lowest_below f a (suc n) k h = below_by f a n k (f a) (lowest_below f (a + 1) n k) h

lowest_same :
    (f g : ℕ → Bool) (a n : ℕ) → ((k : ℕ) → k < a + n → f k ≡ g k)
    → lowest f a n ≡ lowest g a n
lowest_same f g a zero h = refl
lowest_same f g a (suc n) h =
    ap (λ b. if b then Some a else lowest f (a + 1) n) (h a (omega arith))
    ∙ ap (λ o. if g a then Some a else o)
    (lowest_same f g (a + 1) n (λ k lt. h k (omega (arith, lt))))

-- the search for it, core by core

pub lowest_yes :
    (f : ℕ → Bool) (k : ℕ) → k < 16 → f k ≡ true → lowest f 0 16 ≡ lowest f k (16 - k)
    → Some k ≡ lowest f 0 16
lowest_yes f k lt e h =
    let one : 16 - k ≡ suc (15 - k) = omega (arith, lt) in
    sym
    (h ∙ ap (lowest f k) one ∙ ap (λ b. if b then Some k else lowest f (k + 1) (15 - k)) e)

pub lowest_more :
    (f : ℕ → Bool) (k : ℕ) → k < 16 → f k ≡ false → lowest f 0 16 ≡ lowest f k (16 - k)
    → lowest f 0 16 ≡ lowest f (k + 1) (16 - (k + 1))
lowest_more f k lt e h =
    let one : 16 - k ≡ suc (15 - k) = omega (arith, lt) in
    let two : 15 - k ≡ 16 - (k + 1) = omega arith in
    h ∙ ap (lowest f k) one ∙ ap (λ b. if b then Some k else lowest f (k + 1) (15 - k)) e
    ∙ ap (lowest f (k + 1)) two

pub lowest_end :
    (f : ℕ → Bool) (k : ℕ) → 16 ≤ k → lowest f 0 16 ≡ lowest f k (16 - k)
    → None ≡ lowest f 0 16
lowest_end f k le h =
    let none : 16 - k ≡ 0 = omega (arith, le) in sym (h ∙ ap (lowest f k) none)

-- ---- cores past the sixteenth

is_some_is : (k : ℕ) (o : Option ℕ) → is_some_of k o ≡ true → o ≡ Some k
is_some_is k None e = absurd (false≢true e)
is_some_is k (Some j) e = ap (λ z. Some z) (eqb-true j k e)

core_below :
    (c : Config) (past : List Entry) (t n : ℕ) (w : What) → spared_ok c past t w ≡ true → n < 16
    → core_by w n < 16
core_below c past t n (what.Spared k) m lt =
    lowest_below (on_hand c past) 0 16 k.0
    (is_some_is k.0 (lowest (on_hand c past) 0 16) (and_r (after_fence t past) _ m))
core_below c past t n _ m lt = lt

cores_near_by :
    (b : Bool) (x y : ℕ) → x < 16 → y < 16 → (if b then x else y) < 16
cores_near_by true x y p q = p
cores_near_by false x y p q = q

near_more :
    (c : Config) (last : ℕ) (past : List Entry) (e : Entry) → Meets c last past e
    → ((i : ℕ) → i < 8 → core_at i past < 16) → (i : ℕ) → i < 8 → core_at i (e ∷ past) < 16
near_more c last past e m h i lt =
    cores_near_by (e.cpu.0 == i) (core_by e.what (core_at i past)) (core_at i past)
    (core_below c past e.turn (core_at i past) e.what m.spared (h i lt)) (h i lt)

-- a core that is given up is that of its CPU
fenced_near :
    (c : Config) (past : List Entry) (e : Entry) (w : What) → c.cpus ≤ 8 → e.what ≡ w
    → is_fence w ≡ true → core_ok c past e ≡ true → ((i : ℕ) → i < 8 → core_at i past < 16)
    → e.core.0 < 16
fenced_near c past e what.Fenced few is f m h =
    let rest :
    (nat_lt e.cpu.0 c.cpus
    && (not (has_stop e.cpu.0 past)
    && (allows e.turn (fence e.cpu.0 past) && (core_at e.cpu.0 past == e.core.0))))
    ≡ true =
    sym (ap (λ w. is_returned w
    || (nat_lt e.cpu.0 c.cpus
    && (not (has_stop e.cpu.0 past)
    && (allows e.turn (fence e.cpu.0 past) && (core_at e.cpu.0 past == e.core.0)))))
    is) ∙ m in
    let lt = ltb-true e.cpu.0 c.cpus (and_l (nat_lt e.cpu.0 c.cpus) _ rest) in
    let own =
    eqb-true (core_at e.cpu.0 past) e.core.0
    (and_r (allows e.turn (fence e.cpu.0 past)) _
    (and_r (not (has_stop e.cpu.0 past)) _ (and_r (nat_lt e.cpu.0 c.cpus) _ rest))) in
    let near = h e.cpu.0 (omega (arith, lt, few)) in
    omega (arith, own, near)
fenced_near c past e _ few is f m h = absurd (false≢true f)

no_fence_by :
    (x y : Bool) (n : ℕ) → (y ≡ true → x ≡ false) → n ≡ 0 → (if x && y then 1 else 0) + n ≡ 0
no_fence_by true true n h z = absurd (false≢true (sym (h refl)))
no_fence_by true false n h z = omega (arith, z)
no_fence_by false y n h z = omega (arith, z)

far_more :
    (c : Config) (last : ℕ) (past : List Entry) (e : Entry) → c.cpus ≤ 8 → Meets c last past e
    → ((i : ℕ) → i < 8 → core_at i past < 16) → ((k : ℕ) → 16 ≤ k → fences k past ≡ 0)
    → (k : ℕ) → 16 ≤ k → fences k (e ∷ past) ≡ 0
far_more c last past e few m near h k le =
    no_fence_by (e.core.0 == k) (is_fence e.what) (fences k past)
    (λ f. let lt = fenced_near c past e e.what few refl f m.core near in
    ne_eqb e.core.0 k (λ q. omega (arith, q, lt, le)))
    (h k le)

-- ---- one entry more

known_more :
    (i : ℕ) (e : Entry) (past : List Entry)
    → (if e.cpu.0 == i then learn e.what e.turn (known i past) else known i past)
    ≡ known i (e ∷ past)
unfolding known
known_more i e past = refl

recent_more : (e : Entry) (past : List Entry) → recall e (recent past) ≡ recent (e ∷ past)
unfolding recent
recent_more e past = refl

bit_le : (x : Bool) → bit x ≤ 1
bit_le true = omega arith
bit_le false = omega arith

-- a count grows by one where a test holds
abbrev Ticks : List ℕ → List ℕ → (ℕ → Bool) → Type 0
Ticks old new test =
    (k : ℕ) → k < 16 → slice_index new k ≡ bit (test k) + slice_index old k

ticked :
    (old new : List ℕ) (test : ℕ → Bool) (n : ℕ) → Ticks old new test
    → ((k : ℕ) → k < 16 → slice_index old k ≤ n) → (k : ℕ) → k < 16
    → slice_index new k ≤ n + 1
ticked old new test n t few k lt = let one = bit_le (test k) in omega (arith, t k lt, few k lt, one)

pub remembers_more :
    (c : Config) (turns : ℕ) (past : List Entry) (n : ℕ) (old new : Memory) (e : Entry)
    → c.cpus ≤ 8 → Meets c turns past e → Remembers past n old
    → ((i : ℕ) (k : KnownCpu) → i < 8 → slice_get old.cpus i ≡ Some k
    → slice_get new.cpus i ≡ Some (if e.cpu.0 == i then learn e.what e.turn k else k))
    → new.last ≡ recall e old.last
    → Ticks old.returned new.returned (λ k. (e.core.0 == k) && is_returned e.what)
    → Ticks old.taken new.taken (λ k. is_spared_to k e.what)
    → Ticks old.fenced new.fenced (λ k. (e.core.0 == k) && is_fence e.what)
    → Remembers (e ∷ past) (n + 1) new
remembers_more c turns past n old new e few m h t r b g f = record {
  cpus = λ i lt. t i (known i past) lt (h.cpus i lt) ∙ ap (λ z. Some z) (known_more i e past);
  last = r ∙ ap (recall e) h.last ∙ recent_more e past;
  returned =
      λ k lt. b k lt
      ∙ ap (λ z. bit ((e.core.0 == k) && is_returned e.what) + z) (h.returned k lt);
  taken = λ k lt. g k lt ∙ ap (λ z. bit (is_spared_to k e.what) + z) (h.taken k lt);
  fenced =
      λ k lt. f k lt ∙ ap (λ z. bit ((e.core.0 == k) && is_fence e.what) + z) (h.fenced k lt);
  returned_few =
      ticked old.returned new.returned (λ k. (e.core.0 == k) && is_returned e.what) n b
      h.returned_few;
  taken_few = ticked old.taken new.taken (λ k. is_spared_to k e.what) n g h.taken_few;
  fenced_few =
      ticked old.fenced new.fenced (λ k. (e.core.0 == k) && is_fence e.what) n f h.fenced_few;
  near = near_more c turns past e m h.near;
  far = far_more c turns past e few m h.near h.far;
  sorted = (turn_ok_le turns past e m.turn, h.sorted);
}

-- ---- the next entry

far_or_near : (i : ℕ) → (8 ≤ i) ⊎ (i < 8)
far_or_near i = by_test (nat_le 8 i) refl
  where
    by_test : (b : Bool) → nat_le 8 i ≡ b → (8 ≤ i) ⊎ (i < 8)
    by_test true e = inl (leb-true 8 i e)
    by_test false e = inr (leb-false 8 i e)

hand_same :
    (c : Config) (past : List Entry) (n : ℕ) (m : Memory) → Remembers past n m → (j : ℕ)
    → j < 0 + 16
    → hand c (λ k. slice_index m.taken k) (λ k. slice_index m.returned k) j ≡ on_hand c past j
hand_same c past n m h j lt =
    ap (λ z. nat_lt z (slice_index m.returned j + bit (is_spare_number c j)))
    (h.taken j (omega (arith, lt)))
    ∙ ap (λ z. nat_lt (gone j past) (z + bit (is_spare_number c j)))
    (h.returned j (omega (arith, lt)))

pub judged_next :
    (l : ℕ) (c : Config) (last : ℕ) (past : List Entry) (n : ℕ) (m : Memory) (e : Entry)
    (k : KnownCpu) (o : Option ℕ) (f : Bool) (r : Option AuditRefusal)
    → c.cpus ≤ 8 → Remembers past n m
    → (e.cpu.0 < 8 → slice_get m.cpus e.cpu.0 ≡ Some k)
    → o ≡ lowest (hand c (λ k. slice_index m.taken k) (λ k. slice_index m.returned k)) 0 16
    → f ≡ nat_lt (back e.core.0 past) (fences e.core.0 past)
    → r ≡ first_failed l (points_by c last k m.last o f e)
    → r ≡ first_failed l (points c last past e)
judged_next l c last past n m e k o f r few h kn low ef is =
    let right :
    first_failed l (points_by c last (known e.cpu.0 past) m.last o f e)
    ≡ first_failed l (points c last past e) =
    judged_same l c last past e (known e.cpu.0 past) m.last o f h.sorted refl h.last
    (low ∙ lowest_same _ (on_hand c past) 0 16 (hand_same c past n m h)) ef in
    elim (far_or_near e.cpu.0) [
      | inl le ↦
          is ∙ far_same l c last k (known e.cpu.0 past) m.last o f e (omega (arith, le, few))
          ∙ right
      | inr lt ↦
          let same : k ≡ known e.cpu.0 past = cc (kn lt, h.cpus e.cpu.0 lt) in
          is ∙ ap (λ z. first_failed l (points_by c last z m.last o f e)) same ∙ right
    ]

-- whether a core is fenced, also past the sixteenth
pub fenced_far :
    (past : List Entry) (n : ℕ) (m : Memory) (k : ℕ) → Remembers past n m → 16 ≤ k
    → false ≡ nat_lt (back k past) (fences k past)
fenced_far past n m k h le =
    let z = h.far k le in
    sym (false_from_ne_true (nat_lt (back k past) (fences k past))
    (λ y. let lt = ltb-true (back k past) (fences k past) y in absurd (omega (arith, lt, z))))

pub fenced_near_same :
    (past : List Entry) (n : ℕ) (m : Memory) (k : ℕ) → Remembers past n m → k < 16
    → nat_lt (slice_index m.returned k) (slice_index m.fenced k)
    ≡ nat_lt (back k past) (fences k past)
fenced_near_same past n m k h lt =
    ap (λ z. nat_lt z (slice_index m.fenced k)) (h.returned k lt)
    ∙ ap (λ z. nat_lt (back k past) z) (h.fenced k lt)

-- ---- a CPU that is taught

pub taught :
    (xs : List KnownCpu) (a i : ℕ) (w k d v : KnownCpu) → a < length xs → i < length xs
    → slice_get xs i ≡ Some k → (a ≡ i → get_or xs a d ≡ k → w ≡ v)
    → slice_get (slice_set xs a w) i ≡ Some (if a == i then v else k)
taught xs a i w k d v la li h t =
    let l = length-set xs a w in
    let at : get_or xs i d ≡ k = get_or_from_slice_get xs i k d h in
    let new = slice_get-get_or (slice_set xs a w) i d (omega arith) in
    elim (cases_eq a i) [
      | inl is ↦
          let old : get_or xs a d ≡ k = ap (λ z. get_or xs z d) is ∙ at in
          new ∙ ap (λ z. Some z) (get_or-set_at xs a i w d (sym is) la ∙ t is old)
          ∙ ap (λ b. Some (if b then v else k)) (sym (eq-eqb a i is))
      | inr ne ↦
          new ∙ ap (λ z. Some z) (get_or-set_other xs a i w d (λ q. ne (sym q)) ∙ at)
          ∙ ap (λ b. Some (if b then v else k)) (sym (ne_eqb a i ne))
    ]

-- ---- before the first entry

none_of : (n i : ℕ) → slice_index (replicate n 0) i ≡ 0
none_of zero i = refl
none_of (suc n) zero = refl
none_of (suc n) (suc i) = none_of n i

none : (i : ℕ) → slice_index (replicate 16 0) i ≡ 0
none i = none_of 16 i

pub recent_first : no_turn ≡ recent []
unfolding recent
recent_first = refl

abbrev pub unknown_all : List KnownCpu
unknown_all =
    unknown 0 ∷ unknown 1 ∷ unknown 2 ∷ unknown 3 ∷ unknown 4 ∷ unknown 5 ∷ unknown 6
    ∷ unknown 7 ∷ []

eight : (i : ℕ) → i < 8 → slice_get unknown_all i ≡ Some (known i [])
unfolding known
eight zero lt = refl
eight (suc zero) lt = refl
eight (suc (suc zero)) lt = refl
eight (suc (suc (suc zero))) lt = refl
eight (suc (suc (suc (suc zero)))) lt = refl
eight (suc (suc (suc (suc (suc zero))))) lt = refl
eight (suc (suc (suc (suc (suc (suc zero)))))) lt = refl
eight (suc (suc (suc (suc (suc (suc (suc zero))))))) lt = refl
eight (suc (suc (suc (suc (suc (suc (suc (suc n)))))))) lt = absurd (omega (arith, lt))

all_none : (xs : List ℕ) → xs ≡ replicate 16 0 → (i : ℕ) → i < 16 → slice_index xs i ≡ 0
all_none xs e i lt = ap (λ z. slice_index z i) e ∙ none i

none_few : (xs : List ℕ) → xs ≡ replicate 16 0 → (i : ℕ) → i < 16 → slice_index xs i ≤ 0
none_few xs e i lt = let z = all_none xs e i lt in omega (arith, z)

pub first_remembers :
    (m : Memory) → m.cpus ≡ unknown_all → m.last ≡ recent [] → m.returned ≡ replicate 16 0
    → m.taken ≡ replicate 16 0 → m.fenced ≡ replicate 16 0 → Remembers [] 0 m
first_remembers m k r b g f = record {
  cpus = λ i lt. ap (λ z. slice_get z i) k ∙ eight i lt;
  last = r;
  returned = all_none m.returned b;
  taken = all_none m.taken g;
  fenced = all_none m.fenced f;
  returned_few = none_few m.returned b;
  taken_few = none_few m.taken g;
  fenced_few = none_few m.fenced f;
  near = λ i lt. omega (arith, lt);
  far = λ k le. refl;
  sorted = tt;
}
