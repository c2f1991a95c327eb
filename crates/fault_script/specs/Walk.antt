-- Where the strikes of a core's attempts stand, as these are begun one after another.
-- Source: choice of this project.
use Rattle.std.specs.Prelude.{ℕ, ◌+◌, ◌-◌, ◌<◌, ◌≤◌, ◌≡◌, nat_lt, IsTrue, List, length, count_by, flat_map, All, bit_xor, slice_index_or}
use Rattle.std.specs.Vec.{vec_capacity}
use Rattle.run_model.specs.declared.faults.Strike.{Strike}
use Rattle.run_model.specs.declared.faults.Unit.{Unit}
use Rattle.run_model.specs.Script.{AllInRange}
use Rattle.run_model.specs.Strikes.{mask_byte}
use Rattle.fault_script.specs.Index.{key, key_of, if_lasting}
use Rattle.fault_script.specs.Totals.{is_begun, is_left, later_mask}
use Rattle.fault_script.specs.declared.core_walks.CoreWalk.{CoreWalk}

abbrev pub count_below : ℕ → List Strike → ℕ
count_below q strikes = count_by (λ s. nat_lt (key_of s) q) strikes

-- how many strikes are of lower cores, or of this core with an earlier first attempt
unfoldable pub before : List Strike → ℕ → ℕ → ℕ
before strikes core attempt = count_below (key core attempt) strikes

-- so many attempts of the core were begun: the walk is at the strikes of the last one, or, with
-- none begun, at no strike, with all of the core to come. The live ones last, were begun, and are
-- not over before the last attempt; from it on they flip, with those to come, what all that last
-- flip, and there is room for those to come
pub record IsAt (strikes : List Strike) (core begun : ℕ) (walk : CoreWalk) : Type 0 where
  pub low : walk.low ≡ before strikes core (begun - 1)
  pub high : walk.high ≡ before strikes core begun
  pub to_come : walk.to_come ≡ before (flat_map if_lasting strikes) core begun
  pub ranges : AllInRange walk.live.items
  pub started : All (λ s. IsTrue (is_begun core (begun - 1) s)) walk.live.items
  pub left : All (λ s. IsTrue (is_left (begun - 1) s)) walk.live.items
  pub masks : (u : Unit) (n k : ℕ) → begun ≤ n + 1
      → bit_xor (mask_byte walk.live.items core u n k) (later_mask strikes core begun u n k)
      ≡ mask_byte (flat_map if_lasting strikes) core u n k
  pub room : length walk.live.items + before (flat_map if_lasting strikes) (core + 1) 0
      ≤ vec_capacity walk.live + walk.to_come

-- no attempt of any core was begun
pub record AllStart (strikes : List Strike) (cores : List CoreWalk) : Type 0 where
  pub size : length cores ≡ 16
  pub at : (core : ℕ) (d : CoreWalk) → core < 16 → IsAt strikes core 0 (slice_index_or cores core d)
