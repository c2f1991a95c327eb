-- Halving, and the lines between two places.
use Rattle.std.proofs.Common.{◌≡◌, ℕ, zero, suc, ◌+◌, ◌-◌, ◌<◌, ◌≤◌, List, length, [], ◌∷◌, take, drop, get_or, refl, ap, arith}
use Rattle.std.specs.List.Sorted.{IsNonDecreasingBy}
use Rattle.run_model.specs.declared.faults.Strike.{Strike}
use Rattle.fault_script.specs.Index.{key_of, IsBucket}
use Rattle.fault_script.specs.Index.{IsFirst}

any_default : (xs : List Strike) (m : ℕ) (d e : Strike) → m < length xs → get_or xs m d ≡ get_or xs m e
any_default [] m d e h = absurd (omega arith)
any_default (x ∷ xs) zero d e h = refl
any_default (x ∷ xs) (suc m) d e h = any_default xs m d e (omega arith)

pub first_up : (q : ℕ) (xs : List Strike) (low high m r : ℕ) (e : Strike) → IsNonDecreasingBy key_of xs → IsFirst q xs low high → m < length xs → r ≡ key_of (get_or xs m e) → r < q → IsFirst q xs (m + 1) high
first_up q xs low high m r e rises f h is less = record {
  below = λ k d l i. let a = rises k m d (omega arith) h in let b = ap key_of (any_default xs m d e h) in omega (arith, a, b, is, less);
  above = f.above;
}

pub first_down : (q : ℕ) (xs : List Strike) (low high m r : ℕ) (e : Strike) → IsNonDecreasingBy key_of xs → IsFirst q xs low high → m < length xs → r ≡ key_of (get_or xs m e) → q ≤ r → IsFirst q xs low m
first_down q xs low high m r e rises f h is more = record {
  below = f.below;
  above = λ k d l i. let a = rises m k d l i in let b = ap key_of (any_default xs m d e h) in omega (arith, a, b, is, more);
}

pub first_none : (q : ℕ) (xs : List Strike) → IsFirst q xs 0 (length xs)
first_none q xs = record {
  below = λ k d l i. absurd (omega arith);
  above = λ k d l i. absurd (omega arith);
}

pub bucket_between : (q : ℕ) (xs b : List Strike) (low high : ℕ) → IsFirst q xs low low → IsFirst (q + 1) xs high high → low ≤ high → b ≡ take (high - low) (drop low xs) → IsBucket q xs b
bucket_between q xs b low high f g o is = record {
  low = low;
  high = high;
  is = is;
  order = o;
  below = f.below;
  above = λ k d l i. let a = g.above k d l i in omega (arith, a);
}
