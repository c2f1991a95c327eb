-- What strikes flip together, by any way to join two contributions.
-- Source: choice of this project.
use Rattle.std.specs.Prelude.{ℕ, ◌+◌, ◌^◌, ◌<◌, ◌≡◌, Bool, true, ◌==◌, ◌&&◌, nat_le, nat_lt, Option, Some, None, IsTrue, List, [], ◌∷◌, All, flat_map, bit_xor, if◌then◌else◌}
use Rattle.run_model.specs.Strikes.{in_byte, mask_byte, fetch_bit, store_bit, flips}
use Rattle.run_model.specs.declared.faults.Strike.{Strike}
use Rattle.run_model.specs.declared.faults.Strike.TheVariants.{Packet, Fetch, Store, Word}
use Rattle.run_model.specs.declared.faults.Unit.{Unit}
use Rattle.fault_script.specs.Index.{key, key_of, is_brief, if_lasting}

unfoldable pub total : {M : Type 0} → (M → M → M) → M → (Strike → M) → List Strike → M
total op e f [] = e
total op e f (s ∷ ss) = op (f s) (total op e f ss)

-- what a brief strike flips in byte k of the packet of this core and unit at attempt n
abbrev pub brief_byte : Strike → ℕ → Unit → ℕ → ℕ → ℕ
brief_byte s c u n k = if is_brief s then in_byte s c u n k else 0

-- what the brief ones among strikes flip there
abbrev pub brief_mask : List Strike → ℕ → Unit → ℕ → ℕ → ℕ
brief_mask ls c u n k = total bit_xor 0 (λ s. brief_byte s c u n k) ls

-- some of the strikes flip all that strikes flip at attempt n of core c, but that in packets the
-- lasting ones come beside them
pub record IsPart (all part : List Strike) (c n : ℕ) : Type 0 where
  pub words : (w : ℕ) → flips part c n w ≡ flips all c n w
  pub fetch : fetch_bit part c n ≡ fetch_bit all c n
  pub store : store_bit part c n ≡ store_bit all c n
  pub masks : (u : Unit) (k : ℕ)
      → bit_xor (brief_mask part c u n k) (mask_byte (flat_map if_lasting all) c u n k)
      ≡ mask_byte all c u n k

-- ---- the strikes that last

-- it is of core c, and its first attempt is n or an earlier one
abbrev pub is_begun : ℕ → ℕ → Strike → Bool
is_begun c n (Packet core first unit bit count) = (core.0 == c) && nat_le first n
is_begun c n (Fetch core first bit) = (core.0 == c) && nat_le first n
is_begun c n (Store core first bit) = (core.0 == c) && nat_le first n
is_begun c n (Word core first word bit) = (core.0 == c) && nat_le first n

-- a strike of so many attempts from its first one on is not over before attempt n
abbrev pub lasts : ℕ → Option ℕ → ℕ → Bool
lasts first None n = true
lasts first (Some count) n = nat_lt n (first + count)

abbrev pub is_left : ℕ → Strike → Bool
is_left n (Packet core first unit bit count) = lasts first count n
is_left n (Fetch core first bit) = nat_le n first
is_left n (Store core first bit) = nat_le n first
is_left n (Word core first word bit) = nat_le n first

-- some of those that last flip in packets what all of them flip at attempt n of core c, and each is
-- of this core, begun by then and not over
pub record IsLastingPart (all part : List Strike) (c n : ℕ) : Type 0 where
  pub masks : (u : Unit) (k : ℕ)
      → mask_byte part c u n k ≡ mask_byte (flat_map if_lasting all) c u n k
  pub begun : All (λ s. IsTrue (is_begun c n s)) part
  pub left : All (λ s. IsTrue (is_left n s)) part

-- what those that last flip at attempt m, without those of lower cores and those of core c that
-- begin before attempt n
abbrev pub later_byte : ℕ → ℕ → Unit → ℕ → ℕ → Strike → ℕ
later_byte c n u m k s = if nat_le (key c n) (key_of s) then in_byte s c u m k else 0

abbrev pub later_mask : List Strike → ℕ → ℕ → Unit → ℕ → ℕ → ℕ
later_mask all c n u m k = total bit_xor 0 (later_byte c n u m k) (flat_map if_lasting all)

-- some are those that last and begin at attempt n of core c
pub record IsNextPart (all part : List Strike) (c n : ℕ) : Type 0 where
  pub masks : (u : Unit) (m k : ℕ)
      → bit_xor (mask_byte part c u m k) (later_mask all c (n + 1) u m k)
      ≡ later_mask all c n u m k
  pub begun : n < 2 ^ 64 → All (λ s. IsTrue (is_begun c n s)) part
