-- Strikes that last: their masks in another order, those to come, and those of one attempt.
use Rattle.std.proofs.Common.{◌≡◌, ℕ, zero, suc, ◌+◌, ◌^◌, ◌-◌, ◌<◌, ◌≤◌, ◌≢◌, ◌&&◌, ◌/◌, ◌++◌, Bool, true, false, eqb, List, [], ◌∷◌, length, take, drop, get_or, set, swap, flat_map, Option, Some, None, All, IsPermutation, refl, sym, ap, ◌∙◌, arith, bit_xor, inl, inr, get_or-set_same, get_or-set_other}
use Rattle.std.specs.Prelude.{nat_le}
use Rattle.std.specs.Int.Bits.{xor_zero_l, xor_zero_r, xor_assoc, xor_self}
use Rattle.std.proofs.lemmas.Nat.{xor_comm}
use Rattle.std.proofs.lemmas.Bool.{cases_eq, cases_lt}
use Rattle.std.proofs.lemmas.Bool.Decides.{nat_tests}
use Rattle.std.proofs.lemmas.List.{length-set, length-take-le, get_or-take, take-append-drop, drop-drop}
use Rattle.std.proofs.lemmas.List.Sorted.{IsPermutation-keeps}
use Rattle.run_model.specs.declared.faults.Unit.{Unit}
use Rattle.run_model.specs.declared.faults.Strike.{Strike}
use Rattle.run_model.specs.declared.faults.Strike.TheVariants.{Packet, Fetch, Store, Word}
use Rattle.run_model.specs.Premise.{covers, same_unit}
use Rattle.run_model.specs.Script.{InRange, AllInRange}
use Rattle.run_model.specs.Strikes.{mask_byte, in_byte, weight}
use Rattle.fault_script.specs.Index.{key, key_of, if_lasting, IsIndex, IsFirst}
use Rattle.fault_script.specs.Totals.{total, is_begun, later_byte, later_mask, IsNextPart}
use Rattle.fault_script.proofs.Forms.{ranges_all}
use Rattle.fault_script.proofs.Sums.{total_drop, total_none, get_drop, length_drop, three_none, xor_swap}

-- ---- in another order
xor_undo : (b x : ℕ) → bit_xor b (bit_xor b x) ≡ x
xor_undo b x = sym (xor_assoc b b x) ∙ ap (λ z. bit_xor z x) (xor_self b) ∙ xor_zero_l x

xor_first : (a b t : ℕ) → bit_xor a t ≡ bit_xor (bit_xor b t) (bit_xor b a)
xor_first a b t = xor_comm a t ∙ sym (xor_assoc b t (bit_xor b a) ∙ ap (bit_xor b) (xor_swap t b a) ∙ xor_undo b (bit_xor t a))

-- one strike in place of another
total_set : (f : Strike → ℕ) (xs : List Strike) (i : ℕ) (y d : Strike) → i < length xs → total bit_xor 0 f (set xs i y) ≡ bit_xor (total bit_xor 0 f xs) (bit_xor (f (get_or xs i d)) (f y))
unfolding total
total_set f [] i y d h = absurd (omega arith)
total_set f (x ∷ xs) zero y d h = xor_first (f y) (f x) (total bit_xor 0 f xs)
total_set f (x ∷ xs) (suc i) y d h = ap (bit_xor (f x)) (total_set f xs i y d (omega arith)) ∙ sym (xor_assoc (f x) (total bit_xor 0 f xs) _)

there_after : (xs : List Strike) (i j : ℕ) (d : Strike) → i < length xs → get_or (set xs i (get_or xs j d)) j d ≡ get_or xs j d
there_after xs i j d h = elim (cases_eq j i) [
  | inl e ↦ rw e (get_or-set_same xs i (get_or xs i d) d h)
  | inr ne ↦ get_or-set_other xs i j (get_or xs j d) d ne
]

undone : (t a b : ℕ) → bit_xor (bit_xor t (bit_xor a b)) (bit_xor b a) ≡ t
undone t a b = xor_assoc t (bit_xor a b) (bit_xor b a) ∙ ap (bit_xor t) (ap (bit_xor (bit_xor a b)) (xor_comm b a) ∙ xor_self (bit_xor a b)) ∙ xor_zero_r t

total_swap : (f : Strike → ℕ) (xs : List Strike) (i j : ℕ) → i < length xs → j < length xs → total bit_xor 0 f (swap xs i j) ≡ total bit_xor 0 f xs
total_swap f [] i j h l = refl
total_swap f (x ∷ xs) i j h l =
    let ys = x ∷ xs in
    let a = get_or ys i x in
    let b = get_or ys j x in
    let size = length-set ys i b in
    total_set f (set ys i b) j a x (omega (arith, l, size))
    ∙ ap (λ s. bit_xor (total bit_xor 0 f (set ys i b)) (bit_xor (f s) (f a))) (there_after ys i j x h)
    ∙ ap (λ t. bit_xor t (bit_xor (f b) (f a))) (total_set f ys i b x h)
    ∙ undone (total bit_xor 0 f ys) (f a) (f b)

pub total_permuted : (f : Strike → ℕ) (xs ys : List Strike) → IsPermutation xs ys → total bit_xor 0 f ys ≡ total bit_xor 0 f xs
total_permuted f xs ys p = IsPermutation-keeps xs (λ zs. total bit_xor 0 f zs ≡ total bit_xor 0 f xs) refl (λ zs i j h l e. total_swap f zs i j h l ∙ e) ys p

-- ---- strikes that flip nothing
pub mask_total : (ls : List Strike) (c : ℕ) (u : Unit) (n k : ℕ) → mask_byte ls c u n k ≡ total bit_xor 0 (λ s. in_byte s c u n k) ls
unfolding mask_byte total
mask_total [] c u n k = refl
mask_total (s ∷ ss) c u n k = ap (bit_xor (in_byte s c u n k)) (mask_total ss c u n k)

not_same : (a c : ℕ) (b : Bool) → a ≢ c → (eqb a c && b) ≡ false
not_same a c b ne = let f : eqb a c ≡ false = grind (arith, nat_tests, ne) in rw f refl

-- a lower core
nothing_lower : (s : Strike) (c : ℕ) (u : Unit) (n k : ℕ) → key_of s < key c 0 → in_byte s c u n k ≡ 0
nothing_lower (Packet core from unit bit count) c u n k h =
    let ne : core.0 ≢ c = λ e. absurd (omega (arith, e, h)) in
    three_none (eqb core.0 c) (same_unit unit u) (covers from count n) (eqb (bit / 8) k) (weight bit) (not_same core.0 c (covers from count n) ne)
nothing_lower (Fetch core at bit) c u n k h = refl
nothing_lower (Store core at bit) c u n k h = refl
nothing_lower (Word core at word bit) c u n k h = refl

not_yet : (from n : ℕ) (count : Option ℕ) → n < from → covers from count n ≡ false
not_yet from n None h = grind (arith, nat_tests, h)
not_yet from n (Some m) h = grind (arith, nat_tests, h)

pub and_none : (a b : Bool) → b ≡ false → (a && b) ≡ false
and_none true b e = e
and_none false b e = refl

-- a later attempt, or a higher core
nothing_later : (s : Strike) (c : ℕ) (u : Unit) (n k : ℕ) → key c (n + 1) ≤ key_of s → in_byte s c u n k ≡ 0
nothing_later (Packet core from unit bit count) c u n k h = three_none (eqb core.0 c) (same_unit unit u) (covers from count n) (eqb (bit / 8) k) (weight bit) (elim (cases_eq core.0 c) [
  | inl e ↦ and_none (eqb core.0 c) (covers from count n) (not_yet from n count (omega (arith, e, h)))
  | inr ne ↦ not_same core.0 c (covers from count n) ne
])
nothing_later (Fetch core at bit) c u n k h = refl
nothing_later (Store core at bit) c u n k h = refl
nothing_later (Word core at word bit) c u n k h = refl

-- ---- those to come
not_le : (a q : ℕ) → q < a → nat_le a q ≡ false
not_le a q h = grind (arith, nat_tests, h)

le : (a q : ℕ) → a ≤ q → nat_le a q ≡ true
le a q h = grind (arith, nat_tests, h)

later_lower : (s : Strike) (c n : ℕ) (u : Unit) (m k : ℕ) → key_of s < key c n → later_byte c n u m k s ≡ 0
later_lower s c n u m k h = rw (not_le (key c n) (key_of s) h) refl

later_upper : (s : Strike) (c n : ℕ) (u : Unit) (m k : ℕ) → key c n ≤ key_of s → later_byte c n u m k s ≡ in_byte s c u m k
later_upper s c n u m k h = rw (le (key c n) (key_of s) h) refl

total_same : (f g : Strike → ℕ) (xs : List Strike) → ((i : ℕ) (d : Strike) → i < length xs → f (get_or xs i d) ≡ g (get_or xs i d)) → total bit_xor 0 f xs ≡ total bit_xor 0 g xs
unfolding total
total_same f g [] h = refl
total_same f g (x ∷ xs) h =
    let first : f x ≡ g x = h 0 x (omega arith) in
    let rest = total_same f g xs (λ i d l. h (suc i) d (omega arith)) in
    ap (λ y. bit_xor y (total bit_xor 0 f xs)) first ∙ ap (bit_xor (g x)) rest

later_drop : (xs : List Strike) (c n p : ℕ) (u : Unit) (m k : ℕ) → IsFirst (key c n) xs p p → total bit_xor 0 (later_byte c n u m k) xs ≡ mask_byte (drop p xs) c u m k
later_drop xs c n p u m k f =
    sym (total_drop bit_xor 0 (later_byte c n u m k) xs p xor_zero_l (λ i d l j. later_lower (get_or xs i d) c n u m k (f.below i d l j)))
    ∙ total_same (later_byte c n u m k) (λ s. in_byte s c u m k) (drop p xs) (λ i d l.
    let size = length_drop xs p in
    let from : p ≤ p + i = omega arith in
    let here : p + i < length xs = omega (arith, l, size) in
    let at : key c n ≤ key_of (get_or (drop p xs) i d) = rw (get_drop xs p i d) (f.above (p + i) d from here) in
    later_upper (get_or (drop p xs) i d) c n u m k at)
    ∙ sym (mask_total (drop p xs) c u m k)

later_found : (ls xs : List Strike) (c n p : ℕ) (u : Unit) (m k : ℕ) → IsIndex (flat_map if_lasting ls) xs → IsFirst (key c n) xs p p → later_mask ls c n u m k ≡ mask_byte (drop p xs) c u m k
later_found ls xs c n p u m k h f = sym (total_permuted (later_byte c n u m k) (flat_map if_lasting ls) xs h.same) ∙ later_drop xs c n p u m k f

-- with no attempt begun all are to come, and at the last one begun these flip nothing
later_start : (s : Strike) (c : ℕ) (u : Unit) (m k : ℕ) → later_byte c 0 u m k s ≡ in_byte s c u m k
later_start s c u m k = elim (cases_lt (key_of s) (key c 0)) [
  | inl h ↦ later_lower s c 0 u m k h ∙ sym (nothing_lower s c u m k h)
  | inr h ↦ later_upper s c 0 u m k h
]

pub later_all : (ls : List Strike) (c : ℕ) (u : Unit) (m k : ℕ) → later_mask ls c 0 u m k ≡ mask_byte (flat_map if_lasting ls) c u m k
later_all ls c u m k = total_same (later_byte c 0 u m k) (λ s. in_byte s c u m k) (flat_map if_lasting ls) (λ i d l. later_start (get_or (flat_map if_lasting ls) i d) c u m k) ∙ sym (mask_total (flat_map if_lasting ls) c u m k)

later_end : (s : Strike) (c n : ℕ) (u : Unit) (k : ℕ) → later_byte c (n + 1) u n k s ≡ 0
later_end s c n u k = elim (cases_lt (key_of s) (key c (n + 1))) [
  | inl h ↦ later_lower s c (n + 1) u n k h
  | inr h ↦ later_upper s c (n + 1) u n k h ∙ nothing_later s c u n k h
]

pub later_none : (ls : List Strike) (c n : ℕ) (u : Unit) (k : ℕ) → later_mask ls c (n + 1) u n k ≡ 0
later_none ls c n u k = total_none bit_xor 0 (later_byte c (n + 1) u n k) (flat_map if_lasting ls) xor_zero_l (λ i d l. later_end (get_or (flat_map if_lasting ls) i d) c n u k)

-- ---- those of one attempt
pub mask_append : (xs ys : List Strike) (c : ℕ) (u : Unit) (n k : ℕ) → mask_byte (xs ++ ys) c u n k ≡ bit_xor (mask_byte xs c u n k) (mask_byte ys c u n k)
unfolding mask_byte
mask_append [] ys c u n k = sym (xor_zero_l (mask_byte ys c u n k))
mask_append (x ∷ xs) ys c u n k = ap (bit_xor (in_byte x c u n k)) (mask_append xs ys c u n k) ∙ sym (xor_assoc (in_byte x c u n k) (mask_byte xs c u n k) (mask_byte ys c u n k))

mask_cut : (xs : List Strike) (low high c : ℕ) (u : Unit) (n k : ℕ) → low ≤ high → bit_xor (mask_byte (take (high - low) (drop low xs)) c u n k) (mask_byte (drop high xs) c u n k) ≡ mask_byte (drop low xs) c u n k
mask_cut xs low high c u n k o =
    let z : low + (high - low) ≡ high = omega (arith, o) in
    let rest : drop high xs ≡ drop (high - low) (drop low xs) = ap (λ i. drop i xs) (sym z) ∙ sym (drop-drop (high - low) low xs) in
    ap (λ zs. bit_xor (mask_byte (take (high - low) (drop low xs)) c u n k) (mask_byte zs c u n k)) rest
    ∙ sym (mask_append (take (high - low) (drop low xs)) (drop (high - low) (drop low xs)) c u n k)
    ∙ ap (λ zs. mask_byte zs c u n k) (take-append-drop (high - low) (drop low xs))

-- ---- between them
is_by : (a b : Bool) → a ≡ true → b ≡ true → (a && b) ≡ true
is_by a b e f = rw (e, f) refl

begun_by : (core c first n : ℕ) → first ≤ 999999 → n < 2 ^ 64 → key c 0 ≤ key core first → key core first < key c (n + 1) → (eqb core c && nat_le first n) ≡ true
begun_by core c first n r small low high =
    let e : core ≡ c = omega (arith, r, small, low, high) in
    let l : first ≤ n = omega (arith, e, high) in
    let same : eqb core c ≡ true = grind (arith, nat_tests, e) in
    let yes : nat_le first n ≡ true = grind (arith, nat_tests, l) in
    is_by (eqb core c) (nat_le first n) same yes

begun_one : (s : Strike) (c n : ℕ) → InRange s → n < 2 ^ 64 → key c 0 ≤ key_of s → key_of s < key c (n + 1) → is_begun c n s ≡ true
begun_one (Packet core first unit bit count) c n r small low high = begun_by core.0 c first n r.1 small low high
begun_one (Fetch core first bit) c n r small low high = begun_by core.0 c first n r.1 small low high
begun_one (Store core first bit) c n r small low high = begun_by core.0 c first n r.1 small low high
begun_one (Word core first word bit) c n r small low high = begun_by core.0 c first n r.1 small low high

begun_between : (xs : List Strike) (c n low high : ℕ) → AllInRange xs → IsFirst (key c n) xs low low → IsFirst (key c (n + 1)) xs high high → low ≤ high → high ≤ length xs → n < 2 ^ 64
    → All (λ s. is_begun c n s ≡ true) (take (high - low) (drop low xs))
begun_between xs c n low high r f g o inside small k d l =
    let rest = length_drop xs low in
    let fits : high - low ≤ length (drop low xs) = omega (arith, rest, o, inside) in
    let size = length-take-le (high - low) (drop low xs) fits in
    let near : k < high - low = omega (arith, l, size) in
    let here : low + k < length xs = omega (arith, near, o, inside) in
    let at : get_or (take (high - low) (drop low xs)) k d ≡ get_or xs (low + k) d = get_or-take (high - low) (drop low xs) k d near ∙ get_drop xs low k d in
    let a = f.above (low + k) d (omega arith) here in
    let from : key c 0 ≤ key_of (get_or xs (low + k) d) = omega (arith, a) in
    let is = begun_one (get_or xs (low + k) d) c n (ranges_all xs r (low + k) d here) small from (g.below (low + k) d (omega (arith, near, o)) here) in
    rw at is

pub next_found : (ls xs b : List Strike) (c n low high : ℕ) → IsIndex (flat_map if_lasting ls) xs → AllInRange xs → IsFirst (key c n) xs low low → IsFirst (key c (n + 1)) xs high high → low ≤ high → high ≤ length xs
    → b ≡ take (high - low) (drop low xs) → IsNextPart ls b c n
next_found ls xs b c n low high h r f g o inside is = rw is (record {
  masks = λ u m k.
      ap (bit_xor (mask_byte (take (high - low) (drop low xs)) c u m k)) (later_found ls xs c (n + 1) high u m k h g)
      ∙ mask_cut xs low high c u m k o
      ∙ sym (later_found ls xs c n low u m k h f);
  begun = λ small. begun_between xs c n low high r f g o inside small;
})
