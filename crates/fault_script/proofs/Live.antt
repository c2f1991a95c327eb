-- The strikes that last, were begun and are not over, as one attempt more is begun.
use Rattle.std.proofs.Common.{◌≡◌, ℕ, ◌+◌, ◌-◌, ◌/◌, ◌^◌, ◌<◌, ◌≤◌, Bool, true, false, eqb, leb, ltb, List, [], ◌∷◌, ◌++◌, length, filter, flat_map, Option, Some, None, All, refl, sym, ap, subst, ◌∙◌, arith, bit_xor, length-append}
use Rattle.std.specs.Prelude.{◌&&◌, nat_le, nat_lt}
use Rattle.std.specs.Vec.{vec_capacity}
use Rattle.std.specs.Int.Bits.{xor_zero_l, xor_zero_r, xor_assoc}
use Rattle.std.proofs.lemmas.Bool.Decides.{nat_tests}
use Rattle.std.proofs.lemmas.List.Elements.{All-filter, All-append, filter_passes}
use Rattle.std.proofs.lemmas.List.Sums.{length-filter, count_by-le-length}
use Rattle.run_model.specs.declared.faults.Unit.{Unit}
use Rattle.run_model.specs.declared.faults.Strike.{Strike}
use Rattle.run_model.specs.declared.faults.Strike.TheVariants.{Packet, Fetch, Store, Word}
use Rattle.run_model.specs.Premise.{covers, same_unit}
use Rattle.run_model.specs.Script.{AllInRange}
use Rattle.run_model.specs.Strikes.{mask_byte, in_byte, weight}
use Rattle.fault_script.specs.Index.{key, key_of, if_lasting}
use Rattle.fault_script.specs.Totals.{is_begun, is_left, later_mask, IsNextPart, IsLastingPart}
use Rattle.fault_script.specs.Walk.{count_below, before, IsAt}
use Rattle.fault_script.specs.declared.core_walks.CoreWalk.{CoreWalk}
use Rattle.fault_script.proofs.Forms.{ranges_append, ranges_filter}
use Rattle.fault_script.proofs.Lasting.{mask_total, mask_append, and_none, later_all, later_none}
use Rattle.fault_script.proofs.Sums.{total_filter, three_none}
use Rattle.fault_script.proofs.Walks.{below_more_q}

-- ---- what is over flips nothing
over_by : (from m n k : ℕ) → nat_lt n (from + m) ≡ false → n ≤ k → covers from (Some m) k ≡ false
over_by from m n k e l = grind (arith, nat_tests)

over_none : (s : Strike) (c n : ℕ) (u : Unit) (m k : ℕ) → n ≤ m → is_left n s ≡ false → in_byte s c u m k ≡ 0
over_none (Packet core from unit bit None) c n u m k l e = absurd cc
over_none (Packet core from unit bit (Some count)) c n u m k l e = three_none (eqb core.0 c) (same_unit unit u) (covers from (Some count) m) (eqb (bit / 8) k) (weight bit) (and_none (eqb core.0 c) (covers from (Some count) m) (over_by from count n m e l))
over_none (Fetch core at bit) c n u m k l e = refl
over_none (Store core at bit) c n u m k l e = refl
over_none (Word core at word bit) c n u m k l e = refl

mask_left : (xs : List Strike) (c n : ℕ) (u : Unit) (m k : ℕ) → n ≤ m → mask_byte (filter (is_left n) xs) c u m k ≡ mask_byte xs c u m k
mask_left xs c n u m k l =
    mask_total (filter (is_left n) xs) c u m k
    ∙ total_filter bit_xor 0 (λ s. in_byte s c u m k) (is_left n) xs xor_zero_l (λ s e. over_none s c n u m k l e)
    ∙ sym (mask_total xs c u m k)

masks_step : (ls live part : List Strike) (c n : ℕ) (u : Unit) (m k : ℕ) → n ≤ m
    → bit_xor (mask_byte live c u m k) (later_mask ls c n u m k) ≡ mask_byte (flat_map if_lasting ls) c u m k
    → bit_xor (mask_byte part c u m k) (later_mask ls c (n + 1) u m k) ≡ later_mask ls c n u m k
    → bit_xor (mask_byte (filter (is_left n) (live ++ part)) c u m k) (later_mask ls c (n + 1) u m k) ≡ mask_byte (flat_map if_lasting ls) c u m k
masks_step ls live part c n u m k l old next =
    ap (λ x. bit_xor x (later_mask ls c (n + 1) u m k)) (mask_left (live ++ part) c n u m k l ∙ mask_append live part c u m k)
    ∙ xor_assoc (mask_byte live c u m k) (mask_byte part c u m k) (later_mask ls c (n + 1) u m k)
    ∙ ap (bit_xor (mask_byte live c u m k)) next ∙ old

-- ---- what was begun stays so
begun_by : (core c from a n : ℕ) → a ≤ n → (eqb core c && leb from a) ≡ true → (eqb core c && leb from n) ≡ true
begun_by core c from a n l e = grind (arith, nat_tests)

begun_still : (s : Strike) (c a n : ℕ) → a ≤ n → is_begun c a s ≡ true → is_begun c n s ≡ true
begun_still (Packet core from unit bit count) c a n l e = begun_by core.0 c from a n l e
begun_still (Fetch core from bit) c a n l e = begun_by core.0 c from a n l e
begun_still (Store core from bit) c a n l e = begun_by core.0 c from a n l e
begun_still (Word core from word bit) c a n l e = begun_by core.0 c from a n l e

-- ---- before the first attempt, one attempt more, and at the last one
none_mask : (xs : List Strike) (ls : List Strike) (c : ℕ) (u : Unit) (n k : ℕ) → xs ≡ [] → bit_xor (mask_byte xs c u n k) (later_mask ls c 0 u n k) ≡ mask_byte (flat_map if_lasting ls) c u n k
unfolding mask_byte
none_mask xs ls c u n k e = rw e (xor_zero_l (later_mask ls c 0 u n k) ∙ later_all ls c u n k)

none_ranges : (xs : List Strike) → xs ≡ [] → AllInRange xs
none_ranges xs e = rw e tt

none_all : (P : Strike → Type 0) (xs : List Strike) → xs ≡ [] → All P xs
none_all P xs e = rw e (λ k d l. absurd (omega arith))

pub live_start : (ls : List Strike) (c : ℕ) (w : CoreWalk) → w.low ≡ count_below (key c 0) ls → w.high ≡ count_below (key c 0) ls
    → w.to_come ≡ count_below (key c 0) (flat_map if_lasting ls) → w.live.items ≡ [] → vec_capacity w.live ≡ count_below (key (c + 1) 0) (flat_map if_lasting ls) - w.to_come → IsAt ls c 0 w
unfolding before
live_start ls c w low high come none room =
    let size = ap length none in
    record {
      low = low;
      high = high;
      to_come = come;
      ranges = none_ranges w.live.items none;
      started = none_all (λ s. is_begun c 0 s ≡ true) w.live.items none;
      left = none_all (λ s. is_left 0 s ≡ true) w.live.items none;
      masks = λ u n k l. none_mask w.live.items ls c u n k none;
      room = omega (arith, room, size);
    }

pub next_count : (q c n : ℕ) (xs : List Strike) → q ≡ key c n → count_below (q + 1) xs ≡ before xs c (n + 1)
unfolding before
next_count q c n xs e = let k : q + 1 ≡ key c (n + 1) = omega (arith, e) in ap (λ p. count_below p xs) k

pub rises_one : (xs : List Strike) (c n : ℕ) → before xs c n ≤ before xs c (n + 1)
unfolding before
rises_one xs c n = below_more_q (key c n) (key c (n + 1)) xs (omega arith)

pub to_next_core : (c n : ℕ) (xs : List Strike) → n < 2 ^ 64 → before xs c (n + 1) ≤ before xs (c + 1) 0
unfolding before
to_next_core c n xs l = below_more_q (key c (n + 1)) (key (c + 1) 0) xs (omega (arith, l))

pub live_step : (ls part : List Strike) (c n : ℕ) (old new : CoreWalk) → IsAt ls c n old → n < 2 ^ 64 → IsNextPart ls part c n → AllInRange part
    → new.low ≡ old.high → new.high ≡ before ls c (n + 1) → new.to_come ≡ before (flat_map if_lasting ls) c (n + 1)
    → old.to_come ≤ new.to_come → length part ≡ new.to_come - old.to_come
    → new.live.items ≡ filter (is_left n) (old.live.items ++ part) → vec_capacity old.live ≤ vec_capacity new.live → IsAt ls c (n + 1) new
live_step ls part c n old new at small next ranges low high come rises size is room =
    let z : n ≡ n + 1 - 1 = omega arith in
    let all = old.live.items ++ part in
    record {
      low = low ∙ at.high ∙ ap (before ls c) z;
      high = high;
      to_come = come;
      ranges = subst AllInRange (sym is) (ranges_filter (is_left n) all (ranges_append old.live.items part at.ranges ranges));
      started = subst (λ xs. All (λ s. is_begun c (n + 1 - 1) s ≡ true) xs) (sym is) (rw (sym z) (All-filter (is_left n) (λ s. is_begun c n s ≡ true) all (All-append (λ s. is_begun c n s ≡ true) old.live.items part (λ k d l. begun_still _ c (n - 1) n (omega arith) (at.started k d l)) (next.begun small))));
      left = subst (λ xs. All (λ s. is_left (n + 1 - 1) s ≡ true) xs) (sym is) (rw (sym z) (filter_passes (is_left n) all));
      masks = λ u m k l. subst (λ xs. bit_xor (mask_byte xs c u m k) (later_mask ls c (n + 1) u m k) ≡ mask_byte (flat_map if_lasting ls) c u m k) (sym is) (masks_step ls old.live.items part c n u m k (omega (arith, l)) (at.masks u m k (omega (arith, l))) (next.masks u m k));
      room =
          let few = length-filter (is_left n) all in
          let fewer = count_by-le-length (is_left n) all in
          let both = length-append old.live.items part in
          let had = at.room in
          let now = ap length is in
          omega (arith, few, fewer, both, had, now, room, rises, size);
    }

pub live_last : (ls : List Strike) (c n : ℕ) (w : CoreWalk) → IsAt ls c (n + 1) w → IsLastingPart ls w.live.items c n
live_last ls c n w at =
    let z : n + 1 - 1 ≡ n = omega arith in
    record {
      masks = λ u k. let same : n + 1 ≤ n + 1 = omega arith in
          sym (ap (bit_xor (mask_byte w.live.items c u n k)) (later_none ls c n u k) ∙ xor_zero_r (mask_byte w.live.items c u n k)) ∙ at.masks u n k same;
      begun = subst (λ m. All (λ s. is_begun c m s ≡ true) w.live.items) z at.started;
      left = subst (λ m. All (λ s. is_left m s ≡ true) w.live.items) z at.left;
    }

-- ---- what a slice of the order asks for
pub at_order : (ls : List Strike) (c n : ℕ) (w : CoreWalk) → IsAt ls c n w → w.low ≤ w.high
unfolding before
at_order ls c n w at = let rises = below_more_q (key c (n - 1)) (key c n) ls (omega arith) in let low = at.low in let high = at.high in omega (arith, rises, low, high)

pub at_inside : (ls : List Strike) (c n : ℕ) (w : CoreWalk) → IsAt ls c n w → w.high ≤ length ls
unfolding before
at_inside ls c n w at = let few = count_by-le-length (λ (y : Strike). nat_lt (key_of y) (key c n)) ls in let high = at.high in omega (arith, few, high)
