-- What lines give together depends on those of the key alone, in their order.
use Rattle.std.proofs.Common.{◌≡◌, ℕ, zero, suc, ◌+◌, ◌-◌, ◌<◌, ◌≤◌, ◌≢◌, Bool, true, false, cond, eqb, List, [], ◌∷◌, length, take, drop, get_or, filter, Some, None, refl, sym, ap, ◌∙◌, arith, bit_xor, ◌&&◌, ◌/◌, ◌++◌, flat_map, inl, inr}
use Rattle.std.specs.Int.Bits.{xor_zero_l, xor_assoc}
use Rattle.std.proofs.lemmas.Nat.{xor_comm}
use Rattle.std.proofs.lemmas.Bool.{cases_eq}
use Rattle.std.proofs.lemmas.Bool.Decides.{nat_tests}
use Rattle.std.specs.List.Sorted.{ties}
use Rattle.std.specs.Ordering.{nat_cmp, is_lt}
use Rattle.run_model.specs.declared.faults.Unit.{Unit}
use Rattle.run_model.specs.declared.faults.Strike.{Strike}
use Rattle.run_model.specs.declared.faults.Strike.TheVariants.{Packet, Fetch, Store, Word}
use Rattle.run_model.specs.Premise.{covers, same_unit}
use Rattle.run_model.specs.Script.{core_no}
use Rattle.run_model.specs.Strikes.{mask_byte, flips, fetch_bit, store_bit, in_byte, in_word, fetch_in, store_in, first_some, weight}
use Rattle.run_model.specs.declared.faults.CoreNo.{CoreNo}
use Rattle.fault_script.specs.Index.{key, key_of, is_brief, if_lasting, IsIndex, IsBucket}
use Rattle.fault_script.specs.Totals.{total, brief_byte, brief_mask, IsPart}

-- ---- what is left out gives nothing
filter_by : {M : Type 0} (op : M → M → M) (e : M) (f : Strike → M) (s : Strike) (xs ys : List Strike) (t : Bool) → ((x : M) → op e x ≡ x) → (t ≡ false → f s ≡ e) → total op e f ys ≡ total op e f xs → total op e f (cond t (s ∷ ys) ys) ≡ op (f s) (total op e f xs)
unfolding total
filter_by op e f s xs ys true unit none h = ap (op (f s)) h
filter_by op e f s xs ys false unit none h = h ∙ sym (unit (total op e f xs)) ∙ ap (λ m. op m (total op e f xs)) (sym (none refl))

pub total_filter : {M : Type 0} (op : M → M → M) (e : M) (f : Strike → M) (p : Strike → Bool) (xs : List Strike) → ((x : M) → op e x ≡ x) → ((s : Strike) → p s ≡ false → f s ≡ e) → total op e f (filter p xs) ≡ total op e f xs
unfolding total
total_filter op e f p [] unit none = refl
total_filter op e f p (s ∷ xs) unit none = filter_by op e f s xs (filter p xs) (p s) unit (none s) (total_filter op e f p xs unit none)

pub total_drop : {M : Type 0} (op : M → M → M) (e : M) (f : Strike → M) (xs : List Strike) (n : ℕ) → ((x : M) → op e x ≡ x) → ((k : ℕ) (d : Strike) → k < n → k < length xs → f (get_or xs k d) ≡ e) → total op e f (drop n xs) ≡ total op e f xs
unfolding total
total_drop op e f xs zero unit none = refl
total_drop op e f [] (suc n) unit none = refl
total_drop op e f (s ∷ xs) (suc n) unit none =
    total_drop op e f xs n unit (λ k d l i. none (suc k) d (omega arith) (omega arith)) ∙ sym (unit (total op e f xs)) ∙ ap (λ m. op m (total op e f xs)) (sym (none zero s (omega arith) (omega arith)))

pub total_none : {M : Type 0} (op : M → M → M) (e : M) (f : Strike → M) (xs : List Strike) → ((x : M) → op e x ≡ x) → ((k : ℕ) (d : Strike) → k < length xs → f (get_or xs k d) ≡ e) → total op e f xs ≡ e
unfolding total
total_none op e f [] unit none = refl
total_none op e f (s ∷ xs) unit none = ap (λ m. op m (total op e f xs)) (none zero s (omega arith)) ∙ unit (total op e f xs) ∙ total_none op e f xs unit (λ k d i. none (suc k) d (omega arith))

total_take : {M : Type 0} (op : M → M → M) (e : M) (f : Strike → M) (xs : List Strike) (n : ℕ) → ((x : M) → op e x ≡ x) → ((k : ℕ) (d : Strike) → n ≤ k → k < length xs → f (get_or xs k d) ≡ e) → total op e f (take n xs) ≡ total op e f xs
unfolding total
total_take op e f [] zero unit none = refl
total_take op e f (s ∷ xs) zero unit none = sym (total_none op e f (s ∷ xs) unit (λ k d i. none k d (omega arith) i))
total_take op e f [] (suc n) unit none = refl
total_take op e f (s ∷ xs) (suc n) unit none = ap (op (f s)) (total_take op e f xs n unit (λ k d l i. none (suc k) d (omega arith) (omega arith)))

pub get_drop : (xs : List Strike) (n k : ℕ) (d : Strike) → get_or (drop n xs) k d ≡ get_or xs (n + k) d
get_drop xs zero k d = let z : k ≡ 0 + k = omega arith in ap (λ j. get_or xs j d) z
get_drop [] (suc n) k d = refl
get_drop (s ∷ xs) (suc n) k d = let z : suc (n + k) ≡ suc n + k = omega arith in get_drop xs n k d ∙ ap (λ j. get_or (s ∷ xs) j d) z

pub length_drop : (xs : List Strike) (n : ℕ) → length (drop n xs) ≡ length xs - n
length_drop xs zero = omega arith
length_drop [] (suc n) = omega arith
length_drop (s ∷ xs) (suc n) = let r = length_drop xs n in omega (arith, r)

-- a contribution of one key alone
abbrev OfKey : {M : Type 0} → ℕ → M → (Strike → M) → Type 0
OfKey q e f = (s : Strike) → key_of s ≢ q → f s ≡ e

-- those between two places, where the others give nothing
pub total_between : {M : Type 0} (op : M → M → M) (e : M) (f : Strike → M) (xs : List Strike) (low high : ℕ) → ((x : M) → op e x ≡ x) → low ≤ high
    → ((k : ℕ) (d : Strike) → k < low → k < length xs → f (get_or xs k d) ≡ e)
    → ((k : ℕ) (d : Strike) → high ≤ k → k < length xs → f (get_or xs k d) ≡ e)
    → total op e f (take (high - low) (drop low xs)) ≡ total op e f xs
total_between op e f xs low high unit o below above =
    total_take op e f (drop low xs) (high - low) unit
    (λ k d l i.
    let n = length_drop xs low in
    let j : low + k < length xs = omega (arith, n, o) in
    let m : high ≤ low + k = omega (arith, o) in
    ap f (get_drop xs low k d) ∙ above (low + k) d m j)
    ∙ total_drop op e f xs low unit below

total_bucket : {M : Type 0} (op : M → M → M) (e : M) (f : Strike → M) (q : ℕ) (xs b : List Strike) → ((x : M) → op e x ≡ x) → OfKey q e f → IsBucket q xs b → total op e f b ≡ total op e f xs
total_bucket op e f q xs b unit of h =
    ap (total op e f) h.is
    ∙ total_between op e f xs h.low h.high unit h.order
    (λ k d l i. let a = h.below k d l i in of (get_or xs k d) (λ same. absurd (omega (arith, a, same))))
    (λ k d l i. let a = h.above k d l i in of (get_or xs k d) (λ same. absurd (omega (arith, a, same))))

lt_same : (a : ℕ) → is_lt (nat_cmp a a) ≡ false
lt_same a = grind (arith, nat_tests)

tie_same : (x s : Strike) → key_of s ≡ key_of x → ties (λ a b. is_lt (nat_cmp (key_of a) (key_of b))) x s ≡ true
tie_same x s e = rw e (rw (lt_same (key_of x)) refl)

true_false : true ≡ false → ⊥
true_false e = cc

total_index : {M : Type 0} (op : M → M → M) (e : M) (f : Strike → M) (x : Strike) (ls xs : List Strike) → ((y : M) → op e y ≡ y) → OfKey (key_of x) e f → IsIndex ls xs → total op e f xs ≡ total op e f ls
total_index op e f x ls xs unit of h =
    let test = ties (λ a b. is_lt (nat_cmp (key_of a) (key_of b))) x in
    let none = λ (s : Strike) (t : test s ≡ false). of s (λ same. true_false (sym (tie_same x s same) ∙ t)) in
    sym (total_filter op e f test xs unit none) ∙ ap (total op e f) (h.stable x) ∙ total_filter op e f test ls unit none

-- the lines of one attempt, among the lines of an index
total_found : {M : Type 0} (op : M → M → M) (e : M) (f : Strike → M) (c n : ℕ) (ls xs b : List Strike) → ((y : M) → op e y ≡ y) → OfKey (key c n) e f → IsIndex ls xs → IsBucket (key c n) xs b → total op e f b ≡ total op e f ls
total_found op e f c n ls xs b unit of h k = total_bucket op e f (key c n) xs b unit of k ∙ total_index op e f (Word (core_no c) n 0 0) ls xs unit of h

-- ---- the four contributions
fails_both : (core at c n : ℕ) (b : Bool) → key core at ≢ key c n → (eqb core c && (eqb at n && b)) ≡ false
fails_both core at c n b ne = elim (cases_eq core c) [
  | inl p ↦ elim (cases_eq at n) [
    | inl q ↦ absurd (ne (rw (p, q) refl))
    | inr q ↦ grind (arith, nat_tests, q)
  ]
  | inr p ↦ grind (arith, nat_tests, p)
]

fails_two : (core at c n : ℕ) → key core at ≢ key c n → (eqb core c && eqb at n) ≡ false
fails_two core at c n ne = elim (cases_eq core c) [
  | inl p ↦ elim (cases_eq at n) [
    | inl q ↦ absurd (ne (rw (p, q) refl))
    | inr q ↦ grind (arith, nat_tests, q)
  ]
  | inr p ↦ grind (arith, nat_tests, p)
]

word_of_key : (c n w : ℕ) → OfKey (key c n) 0 (λ s. in_word s c n w)
word_of_key c n w (Packet core from unit bit count) ne = refl
word_of_key c n w (Fetch core at bit) ne = refl
word_of_key c n w (Store core at bit) ne = refl
word_of_key c n w (Word core at word bit) ne = rw (fails_both core.0 at c n (eqb word w) ne) refl

fetch_of_key : (c n : ℕ) → OfKey (key c n) None (λ s. fetch_in s c n)
fetch_of_key c n (Packet core from unit bit count) ne = refl
fetch_of_key c n (Fetch core at bit) ne = rw (fails_two core.0 at c n ne) refl
fetch_of_key c n (Store core at bit) ne = refl
fetch_of_key c n (Word core at word bit) ne = refl

store_of_key : (c n : ℕ) → OfKey (key c n) None (λ s. store_in s c n)
store_of_key c n (Packet core from unit bit count) ne = refl
store_of_key c n (Fetch core at bit) ne = refl
store_of_key c n (Store core at bit) ne = rw (fails_two core.0 at c n ne) refl
store_of_key c n (Word core at word bit) ne = refl

flips_total : (ls : List Strike) (c n w : ℕ) → flips ls c n w ≡ total bit_xor 0 (λ s. in_word s c n w) ls
unfolding flips total
flips_total [] c n w = refl
flips_total (s ∷ ss) c n w = ap (bit_xor (in_word s c n w)) (flips_total ss c n w)

fetch_total : (ls : List Strike) (c n : ℕ) → fetch_bit ls c n ≡ total first_some None (λ s. fetch_in s c n) ls
unfolding fetch_bit total
fetch_total [] c n = refl
fetch_total (s ∷ ss) c n = ap (first_some (fetch_in s c n)) (fetch_total ss c n)

store_total : (ls : List Strike) (c n : ℕ) → store_bit ls c n ≡ total first_some None (λ s. store_in s c n) ls
unfolding store_bit total
store_total [] c n = refl
store_total (s ∷ ss) c n = ap (first_some (store_in s c n)) (store_total ss c n)

pub flips_found : (ls xs b : List Strike) (c n w : ℕ) → IsIndex ls xs → IsBucket (key c n) xs b → flips b c n w ≡ flips ls c n w
flips_found ls xs b c n w h k = flips_total b c n w ∙ total_found bit_xor 0 (λ s. in_word s c n w) c n ls xs b xor_zero_l (word_of_key c n w) h k ∙ sym (flips_total ls c n w)

pub fetch_found : (ls xs b : List Strike) (c n : ℕ) → IsIndex ls xs → IsBucket (key c n) xs b → fetch_bit b c n ≡ fetch_bit ls c n
fetch_found ls xs b c n h k = fetch_total b c n ∙ total_found first_some None (λ s. fetch_in s c n) c n ls xs b (λ y. refl) (fetch_of_key c n) h k ∙ sym (fetch_total ls c n)

pub store_found : (ls xs b : List Strike) (c n : ℕ) → IsIndex ls xs → IsBucket (key c n) xs b → store_bit b c n ≡ store_bit ls c n
store_found ls xs b c n h k = store_total b c n ∙ total_found first_some None (λ s. store_in s c n) c n ls xs b (λ y. refl) (store_of_key c n) h k ∙ sym (store_total ls c n)

-- ---- packets: the lines of one attempt alone, and those that last
covers_one : (from m n : ℕ) → eqb m 1 ≡ true → covers from (Some m) n ≡ eqb from n
covers_one from m n e = grind (arith, nat_tests)

pub three_none : (a b d x : Bool) (v : ℕ) → a && d ≡ false → cond (a && (b && (d && x))) v 0 ≡ 0
three_none true b true x v e = absurd cc
three_none true true false x v e = refl
three_none true false false x v e = refl
three_none false b d x v e = refl

brief_by : (core : CoreNo) (from bit c n k : ℕ) (unit u : Unit) (m : ℕ) (t : Bool) → eqb m 1 ≡ t → key core.0 from ≢ key c n → cond t (in_byte (Packet core from unit bit (Some m)) c u n k) 0 ≡ 0
brief_by core from bit c n k unit u m false e ne = refl
brief_by core from bit c n k unit u m true e ne = three_none (eqb core.0 c) (same_unit unit u) (covers from (Some m) n) (eqb (bit / 8) k) (weight bit) (ap (λ b. eqb core.0 c && b) (covers_one from m n e) ∙ fails_two core.0 from c n ne)

brief_of_key : (c n k : ℕ) (u : Unit) → OfKey (key c n) 0 (λ s. brief_byte s c u n k)
brief_of_key c n k u (Packet core from unit bit None) ne = refl
brief_of_key c n k u (Packet core from unit bit (Some m)) ne = brief_by core from bit c n k unit u m (eqb m 1) refl ne
brief_of_key c n k u (Fetch core at bit) ne = refl
brief_of_key c n k u (Store core at bit) ne = refl
brief_of_key c n k u (Word core at word bit) ne = refl

pub brief_found : (ls xs b : List Strike) (c n k : ℕ) (u : Unit) → IsIndex ls xs → IsBucket (key c n) xs b → brief_mask b c u n k ≡ brief_mask ls c u n k
brief_found ls xs b c n k u h q = total_found bit_xor 0 (λ s. brief_byte s c u n k) c n ls xs b xor_zero_l (brief_of_key c n k u) h q

pub xor_swap : (a b c : ℕ) → bit_xor a (bit_xor b c) ≡ bit_xor b (bit_xor a c)
xor_swap a b c = sym (xor_assoc a b c) ∙ ap (λ x. bit_xor x c) (xor_comm a b) ∙ xor_assoc b a c

-- one line more, brief or lasting
split_by : (ss : List Strike) (s : Strike) (c n k : ℕ) (u : Unit) (t : Bool) → bit_xor (brief_mask ss c u n k) (mask_byte (flat_map if_lasting ss) c u n k) ≡ mask_byte ss c u n k
    → bit_xor (bit_xor (cond t (in_byte s c u n k) 0) (brief_mask ss c u n k)) (mask_byte (cond t [] (s ∷ []) ++ flat_map if_lasting ss) c u n k) ≡ bit_xor (in_byte s c u n k) (mask_byte ss c u n k)
unfolding mask_byte
split_by ss s c n k u true h = xor_assoc (in_byte s c u n k) (brief_mask ss c u n k) _ ∙ ap (bit_xor (in_byte s c u n k)) h
split_by ss s c n k u false h =
    ap (λ x. bit_xor x (bit_xor (in_byte s c u n k) (mask_byte (flat_map if_lasting ss) c u n k))) (xor_zero_l (brief_mask ss c u n k))
    ∙ xor_swap (brief_mask ss c u n k) (in_byte s c u n k) _ ∙ ap (bit_xor (in_byte s c u n k)) h

pub mask_split : (ls : List Strike) (c n k : ℕ) (u : Unit) → bit_xor (brief_mask ls c u n k) (mask_byte (flat_map if_lasting ls) c u n k) ≡ mask_byte ls c u n k
unfolding mask_byte total
mask_split [] c n k u = refl
mask_split (s ∷ ss) c n k u = split_by ss s c n k u (is_brief s) (mask_split ss c n k u)

-- the whole mask of an attempt: its own lines, and those that last
pub mask_found : (ls xs b : List Strike) (c n k : ℕ) (u : Unit) → IsIndex ls xs → IsBucket (key c n) xs b → bit_xor (brief_mask b c u n k) (mask_byte (flat_map if_lasting ls) c u n k) ≡ mask_byte ls c u n k
mask_found ls xs b c n k u h q = ap (λ x. bit_xor x (mask_byte (flat_map if_lasting ls) c u n k)) (brief_found ls xs b c n k u h q) ∙ mask_split ls c n k u

pub part_found : (ls xs b : List Strike) (c n : ℕ) → IsIndex ls xs → IsBucket (key c n) xs b → IsPart ls b c n
part_found ls xs b c n h q = record {
  words = λ w. flips_found ls xs b c n w h q;
  fetch = fetch_found ls xs b c n h q;
  store = store_found ls xs b c n h q;
  masks = λ u k. mask_found ls xs b c n k u h q;
}
