-- How many strikes of a sorted list are below a key, and where the others begin.
use Rattle.std.proofs.Common.{◌≡◌, ℕ, zero, suc, ◌+◌, ◌-◌, ◌<◌, ◌≤◌, ◌≢◌, true, false, cond, ltb, List, [], ◌∷◌, length, take, drop, get_or, refl, sym, ap, subst, ◌∙◌, arith, inl, inr, flat_map}
use Rattle.std.specs.List.Sorted.{IsNonDecreasingBy}
use Rattle.std.proofs.lemmas.List.Sums.{sum_by-cons, sum_by-le-sum_by, count_by-le-length}
use Rattle.std.proofs.lemmas.List.Sorted.{sum_by-IsPermutation, length_permutation}
use Rattle.std.proofs.lemmas.Bool.{cases_lt}
use Rattle.std.proofs.lemmas.List.{length-take-le}
use Rattle.std.proofs.lemmas.Bool.Decides.{nat_tests}
use Rattle.run_model.specs.declared.faults.Strike.{Strike}
use Rattle.run_model.specs.Script.{AllInRange}
use Rattle.fault_script.specs.Index.{key, key_of, if_lasting, IsFirst, IsIndex}
use Rattle.fault_script.specs.Totals.{IsPart, IsNextPart}
use Rattle.fault_script.specs.Walk.{count_below, before}
use Rattle.fault_script.proofs.Buckets.{bucket_between, first_up, first_down}
use Rattle.fault_script.proofs.Lasting.{next_found}
use Rattle.fault_script.proofs.Sums.{part_found, length_drop}

less : (a q : ℕ) → a < q → ltb a q ≡ true
less a q h = grind (arith, nat_tests)

not_less : (a q : ℕ) → q ≤ a → ltb a q ≡ false
not_less a q h = grind (arith, nat_tests)

count_one : (q : ℕ) (x : Strike) (xs : List Strike) → key_of x < q → count_below q (x ∷ xs) ≡ suc (count_below q xs)
count_one q x xs h =
    let s = sum_by-cons (λ (y : Strike). cond (ltb (key_of y) q) 1 0) x xs in
    let w : cond {A = ℕ} (ltb (key_of x) q) 1 0 ≡ 1 = rw (less (key_of x) q h) refl in
    omega arith

count_other : (q : ℕ) (x : Strike) (xs : List Strike) → q ≤ key_of x → count_below q (x ∷ xs) ≡ count_below q xs
count_other q x xs h =
    let s = sum_by-cons (λ (y : Strike). cond (ltb (key_of y) q) 1 0) x xs in
    let w : cond {A = ℕ} (ltb (key_of x) q) 1 0 ≡ 0 = rw (not_less (key_of x) q h) refl in
    omega arith

-- the first place from which on no key is below q is the number of those that are
pub count_first : (q : ℕ) (xs : List Strike) (n : ℕ) → IsFirst q xs n n → n ≤ length xs → n ≡ count_below q xs
count_first q [] zero f l = refl
count_first q [] (suc n) f l = absurd (omega arith)
count_first q (x ∷ xs) zero f l =
    let r = count_first q xs zero (record {
      below = λ k d a i. absurd (omega arith);
      above = λ k d a i. f.above (suc k) d (omega arith) (omega arith);
    }) (omega arith) in
    let s = count_other q x xs (f.above 0 x (omega arith) (omega arith)) in
    omega arith
count_first q (x ∷ xs) (suc n) f l =
    let r = count_first q xs n (record {
      below = λ k d a i. f.below (suc k) d (omega arith) (omega arith);
      above = λ k d a i. f.above (suc k) d (omega arith) (omega arith);
    }) (omega arith) in
    let s = count_one q x xs (f.below 0 x (omega arith) (omega arith)) in
    omega arith

rises_tail : (x : Strike) (xs : List Strike) → IsNonDecreasingBy key_of (x ∷ xs) → IsNonDecreasingBy key_of xs
rises_tail x xs r i j d a b = r (suc i) (suc j) d (omega arith) (omega arith)

below_more : (q : ℕ) (x : Strike) (xs : List Strike) (m n : ℕ) → key_of x < q → m ≡ suc n → IsFirst q xs n n → (k : ℕ) (d : Strike) → k < m → k < length (x ∷ xs) → key_of (get_or (x ∷ xs) k d) < q
below_more q x xs m n h e f zero d a i = h
below_more q x xs m n h e f (suc k) d a i = f.below k d (omega arith) (omega arith)

above_more : (q : ℕ) (x : Strike) (xs : List Strike) (m n : ℕ) → m ≡ suc n → IsFirst q xs n n → (k : ℕ) (d : Strike) → m ≤ k → k < length (x ∷ xs) → q ≤ key_of (get_or (x ∷ xs) k d)
above_more q x xs m n e f zero d a i = absurd (omega arith)
above_more q x xs m n e f (suc k) d a i = f.above k d (omega arith) (omega arith)

first_more : (q : ℕ) (x : Strike) (xs : List Strike) (m n : ℕ) → key_of x < q → m ≡ suc n → IsFirst q xs n n → IsFirst q (x ∷ xs) m m
first_more q x xs m n h e f = record {
  below = below_more q x xs m n h e f;
  above = above_more q x xs m n e f;
}

none_below : (q : ℕ) (x : Strike) (xs : List Strike) (n : ℕ) → q ≤ key_of x → IsNonDecreasingBy key_of (x ∷ xs) → IsFirst q xs n n → n ≤ length xs → n ≡ 0
none_below q x xs zero h r f l = refl
none_below q x xs (suc n) h r f l =
    let a = r 0 1 x (omega arith) (omega arith) in
    let b = f.below 0 x (omega arith) (omega arith) in
    absurd (omega (arith, a, b))

above_here : (q : ℕ) (x : Strike) (xs : List Strike) → q ≤ key_of x → IsNonDecreasingBy key_of (x ∷ xs) → (k : ℕ) (d : Strike) → k < length (x ∷ xs) → q ≤ key_of (get_or (x ∷ xs) k d)
above_here q x xs h r zero d i = h
above_here q x xs h r (suc k) d i = let a = r 0 (suc k) d (omega arith) i in omega (arith, a)

first_here : (q : ℕ) (x : Strike) (xs : List Strike) (m : ℕ) → m ≡ 0 → q ≤ key_of x → IsNonDecreasingBy key_of (x ∷ xs) → IsFirst q (x ∷ xs) m m
first_here q x xs m e h r = record {
  below = λ k d a i. absurd (omega arith);
  above = λ k d a i. above_here q x xs h r k d i;
}

-- and there they begin
pub first_count : (q : ℕ) (xs : List Strike) → IsNonDecreasingBy key_of xs → IsFirst q xs (count_below q xs) (count_below q xs)
first_count q [] r = record {
  below = λ k d a i. absurd (omega arith);
  above = λ k d a i. absurd (omega arith);
}
first_count q (x ∷ xs) r =
    let n = count_below q xs in
    let f : IsFirst q xs n n = first_count q xs (rises_tail x xs r) in
    elim (cases_lt (key_of x) q) [
      | inl h ↦ first_more q x xs _ n h (count_one q x xs h) f
      | inr h ↦ first_here q x xs _ (count_other q x xs h ∙ none_below q x xs n h r f (count_by-le-length _ xs)) h r
    ]

-- ---- one attempt after another
pub past_last : (q : ℕ) (xs : List Strike) (n : ℕ) → ((k : ℕ) (d : Strike) → k < n → k < length xs → key_of (get_or xs k d) < q + 1) → n ≡ length xs → n ≡ count_below (q + 1) xs
past_last q xs n below e = count_first (q + 1) xs n (record {
  below = below;
  above = λ k d a i. absurd (omega arith);
}) (omega arith)

-- the next one's key is another than q, and no less
pub past_here : (q : ℕ) (xs : List Strike) (from n r : ℕ) (e : Strike) → IsNonDecreasingBy key_of xs → from ≡ count_below q xs → from ≤ n → n < length xs → ((k : ℕ) (d : Strike) → k < n → k < length xs → key_of (get_or xs k d) < q + 1) → r ≡ key_of (get_or xs n e) → r ≢ q → n ≡ count_below (q + 1) xs
past_here q xs from n r e rises first l h below is ne =
    let f = first_count q xs rises in
    let a = f.above n e (omega arith) h in
    let more : q + 1 ≤ r = omega (arith, a, is, ne) in
    let here = first_down (q + 1) xs n (length xs) n r e rises (record {
      below = below;
      above = λ k d b i. absurd (omega arith);
    }) h is more in
    count_first (q + 1) xs n here (omega arith)

-- a place more, with the key q
pub past_more : (q : ℕ) (xs : List Strike) (n r : ℕ) (e : Strike) → IsNonDecreasingBy key_of xs → n < length xs → ((k : ℕ) (d : Strike) → k < n → k < length xs → key_of (get_or xs k d) < q + 1) → r ≡ key_of (get_or xs n e) → r ≡ q → (k : ℕ) (d : Strike) → k < n + 1 → k < length xs → key_of (get_or xs k d) < q + 1
past_more q xs n r e rises h below is same k d l i =
    let f = first_up (q + 1) xs n (length xs) n r e rises (record {
      below = below;
      above = λ k d b i. absurd (omega arith);
    }) h is (omega arith) in
    f.below k d l i

-- before the last attempt that was begun, as the loop reached it
pub nothing_past : (q : ℕ) (xs : List Strike) (from : ℕ) → IsNonDecreasingBy key_of xs → from ≡ count_below q xs → (k : ℕ) (d : Strike) → k < from → k < length xs → key_of (get_or xs k d) < q + 1
nothing_past q xs from rises first k d l i =
    let f = first_count q xs rises in
    let a = f.below k d (omega arith) i in
    omega (arith, a)

-- ---- the places in the orders
pub same_count : (ls xs : List Strike) (q : ℕ) → IsIndex ls xs → count_below q xs ≡ count_below q ls
same_count ls xs q h = sum_by-IsPermutation (λ (y : Strike). cond (ltb (key_of y) q) 1 0) ls xs h.same

pub count_of_first : (ls xs : List Strike) (q n : ℕ) → IsIndex ls xs → IsFirst q xs n n → n ≤ length xs → n ≡ count_below q ls
count_of_first ls xs q n h f l = count_first q xs n f l ∙ same_count ls xs q h

pub below_more_q : (q r : ℕ) (xs : List Strike) → q ≤ r → count_below q xs ≤ count_below r xs
below_more_q q r xs h = sum_by-le-sum_by (λ (y : Strike). cond (ltb (key_of y) q) 1 0) (λ (y : Strike). cond (ltb (key_of y) r) 1 0) xs (λ y. grind (arith, nat_tests, h))

pub inside_order : (ls xs : List Strike) (n : ℕ) → IsIndex ls xs → n ≤ length ls → n ≤ length xs
inside_order ls xs n h l = let same = length_permutation ls xs h.same in omega (arith, same)

pub length_between : (xs : List Strike) (low high : ℕ) → low ≤ high → high ≤ length xs → length (take (high - low) (drop low xs)) ≡ high - low
length_between xs low high o l = let rest = length_drop xs low in length-take-le (high - low) (drop low xs) (omega (arith, rest, o, l))

-- a place of which it is known how many are below it
first_at : (ls xs : List Strike) (q n : ℕ) → IsIndex ls xs → n ≡ count_below q ls → IsFirst q xs n n
first_at ls xs q n h e =
    let same : count_below q xs ≡ n = same_count ls xs q h ∙ sym e in
    subst (λ p. IsFirst q xs p p) same (first_count q xs h.rises)

pub part_at : (ls xs b : List Strike) (low high : ℕ) → IsIndex ls xs → low ≤ high → b ≡ take (high - low) (drop low xs) → (c n : ℕ) → low ≡ before ls c n → high ≡ before ls c (n + 1) → IsPart ls b c n
unfolding before
part_at ls xs b low high h o is c n e d =
    let k : key c (n + 1) ≡ key c n + 1 = omega arith in
    let f = first_at ls xs (key c n) low h e in
    let g = first_at ls xs (key c n + 1) high h (d ∙ ap (λ q. count_below q ls) k) in
    part_found ls xs b c n h (bucket_between (key c n) xs b low high f g o is)

pub next_at : (ls ms b : List Strike) (low high : ℕ) → IsIndex (flat_map if_lasting ls) ms → AllInRange ms → low ≤ high → high ≤ length ms → b ≡ take (high - low) (drop low ms) → (c n : ℕ) → low ≡ before (flat_map if_lasting ls) c n → high ≡ before (flat_map if_lasting ls) c (n + 1) → IsNextPart ls b c n
unfolding before
next_at ls ms b low high j ranges o inside is c n e d =
    let f = first_at (flat_map if_lasting ls) ms (key c n) low j e in
    let g = first_at (flat_map if_lasting ls) ms (key c (n + 1)) high j d in
    next_found ls ms b c n low high j ranges f g o inside is
