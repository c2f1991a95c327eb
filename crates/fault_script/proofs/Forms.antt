-- Strikes in their ranges, in another order, between two places, and some of them.
use Rattle.std.proofs.Common.{ℕ, zero, suc, Bool, true, false, cond, List, [], ◌∷◌, ◌++◌, take, drop, filter, flat_map, All, IsPermutation, arith}
use Rattle.std.proofs.lemmas.List.Elements.{All-filter}
use Rattle.std.proofs.lemmas.List.Sorted.{All-permutation}
use Rattle.run_model.specs.declared.faults.Strike.{Strike}
use Rattle.run_model.specs.Script.{InRange, AllInRange}
use Rattle.fault_script.specs.Index.{is_brief, if_lasting}

pub ranges_all : (ls : List Strike) → AllInRange ls → All InRange ls
ranges_all [] f k d h = absurd (omega arith)
ranges_all (s ∷ ss) f zero d h = f.0
ranges_all (s ∷ ss) f (suc k) d h = ranges_all ss f.1 k d (omega arith)

all_ranges : (ls : List Strike) → All InRange ls → AllInRange ls
all_ranges [] h = tt
all_ranges (s ∷ ss) h = (h zero s (omega arith), all_ranges ss (λ k d l. h (suc k) d (omega arith)))

pub ranges_permuted : (xs ys : List Strike) → IsPermutation xs ys → AllInRange xs → AllInRange ys
ranges_permuted xs ys p f = all_ranges ys (All-permutation InRange xs ys p (ranges_all xs f))

ranges_drop : (ls : List Strike) (n : ℕ) → AllInRange ls → AllInRange (drop n ls)
ranges_drop ls zero f = f
ranges_drop [] (suc n) f = tt
ranges_drop (s ∷ ss) (suc n) f = ranges_drop ss n f.1

pub ranges_take : (ls : List Strike) (n : ℕ) → AllInRange ls → AllInRange (take n ls)
ranges_take [] zero f = tt
ranges_take (s ∷ ss) zero f = tt
ranges_take [] (suc n) f = tt
ranges_take (s ∷ ss) (suc n) f = (f.0, ranges_take ss n f.1)

pub ranges_between : (ls : List Strike) (n m : ℕ) → AllInRange ls → AllInRange (take m (drop n ls))
ranges_between ls n m f = ranges_take (drop n ls) m (ranges_drop ls n f)

ranges_if : (s : Strike) (ss : List Strike) (t : Bool) → InRange s → AllInRange ss → AllInRange (cond t [] (s ∷ []) ++ ss)
ranges_if s ss true r f = f
ranges_if s ss false r f = (r, f)

pub ranges_lasting : (ls : List Strike) → AllInRange ls → AllInRange (flat_map if_lasting ls)
ranges_lasting [] f = tt
ranges_lasting (s ∷ ss) f = ranges_if s (flat_map if_lasting ss) (is_brief s) f.0 (ranges_lasting ss f.1)

pub ranges_append : (xs ys : List Strike) → AllInRange xs → AllInRange ys → AllInRange (xs ++ ys)
ranges_append [] ys f g = g
ranges_append (x ∷ xs) ys f g = (f.0, ranges_append xs ys f.1 g)

pub ranges_filter : (p : Strike → Bool) (xs : List Strike) → AllInRange xs → AllInRange (filter p xs)
ranges_filter p xs f = all_ranges (filter p xs) (All-filter p InRange xs (ranges_all xs f))
