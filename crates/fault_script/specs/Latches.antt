-- The latches that strikes hit, as a set of numbers.
-- Source: choice of this project.
use Rattle.std.specs.Prelude.{ℕ, ◌+◌, ◌*◌, ◌≡◌, ◌==◌, Bool, false, List, Option, Some, None}
use Rattle.std.specs.List.{list_any}
use Rattle.run_model.specs.Script.{InRange, AllInRange, OnceEach, same_latch}
use Rattle.run_model.specs.declared.faults.Strike.{Strike}
use Rattle.run_model.specs.declared.faults.Strike.TheVariants.{Packet, Fetch, Store, Word}

-- one number for a core below 256, an attempt, and its fetch latch (0) or store latch (1)
abbrev pub latch_number : ℕ → ℕ → ℕ → ℕ
latch_number core attempt latch = (attempt * 256 + core) * 2 + latch

-- of the latch that a strike hits, if it hits one
abbrev pub latch_of : Strike → Option ℕ
latch_of (Packet core first unit bit count) = None
latch_of (Fetch core first bit) = Some (latch_number core.0 first 0)
latch_of (Store core first bit) = Some (latch_number core.0 first 1)
latch_of (Word core first word bit) = None

abbrev pub is_latch : Option ℕ → ℕ → Bool
is_latch None q = false
is_latch (Some p) q = p == q

abbrev pub is_noted : (ℕ → Bool) → Option ℕ → Bool
is_noted has None = false
is_noted has (Some q) = has q

-- strikes of earlier lines, and the set of the numbers of their latches
pub record IsGathered (strikes : List Strike) (has : ℕ → Bool) : Type 0 where
  pub ranges : AllInRange strikes
  pub latches : OnceEach strikes
  pub noted : (s : Strike) → InRange s → list_any (same_latch s) strikes ≡ is_noted has (latch_of s)
