-- The premise on a fault script, bit by bit. Source: choice of this project. A bit that is struck
-- twice at one place and attempt is not flipped. The premise: where the two units of a core are
-- struck alike at an attempt, neither is struck, since the comparison would not see it; and at most
-- two strikes fall on a checkpoint word in 16 attempts from 16k on, since the code shows no more.
use Rattle.std.specs.Prelude.{ℕ, ◌+◌, ◌/◌, ◌%◌, ◌<◌, ◌≤◌, ◌≡◌, Bool, true, false, ◌&&◌, ◌==◌, nat_lt, nat_le, List, [], ◌∷◌, Option, Some, None, count_by, refl}
use Rattle.run_model.specs.Script.{core_no}
use Rattle.run_model.specs.declared.faults.Unit.{Unit}
use Rattle.run_model.specs.declared.faults.Unit.TheVariants.{A, B}
use Rattle.run_model.specs.declared.faults.Strike.{Strike}
use Rattle.run_model.specs.declared.faults.Strike.TheVariants.{Packet, Fetch, Store, Word}

abbrev pub same_unit : Unit → Unit → Bool
same_unit A A = true
same_unit A B = false
same_unit B A = false
same_unit B B = true

-- the attempts that a line covers: from its first one on, as many as it counts, or all
abbrev pub covers : ℕ → Option ℕ → ℕ → Bool
covers first None n = nat_le first n
covers first (Some count) n = nat_le first n && nat_lt n (first + count)

-- a strike on this bit of the packet of this core and unit at this attempt
abbrev pub hits_packet : ℕ → Unit → ℕ → ℕ → Strike → Bool
hits_packet c u n b (Packet core first unit bit count) =
    (((core.0 == c) && same_unit unit u) && (bit == b)) && covers first count n
hits_packet c u n b (Fetch core first bit) = false
hits_packet c u n b (Store core first bit) = false
hits_packet c u n b (Word core first word bit) = false

-- a strike on this bit of this checkpoint word of the core, as this attempt begins
abbrev pub hits_word : ℕ → ℕ → ℕ → ℕ → Strike → Bool
hits_word c n w b (Packet core first unit bit count) = false
hits_word c n w b (Fetch core first bit) = false
hits_word c n w b (Store core first bit) = false
hits_word c n w b (Word core first word bit) =
    ((core.0 == c) && (first == n)) && ((word == w) && (bit == b))

abbrev pub is_odd : ℕ → Bool
is_odd k = k % 2 == 1

-- whether this bit of the packet of this core and unit is flipped at this attempt
abbrev pub mask : List Strike → ℕ → Unit → ℕ → ℕ → Bool
mask strikes c u n b = is_odd (count_by (hits_packet c u n b) strikes)

-- a strike on this checkpoint word of the core in the attempts 16 k to 16 k + 15
abbrev pub strikes_word : ℕ → ℕ → ℕ → Strike → Bool
strikes_word c w k (Packet core first unit bit count) = false
strikes_word c w k (Fetch core first bit) = false
strikes_word c w k (Store core first bit) = false
strikes_word c w k (Word core first word bit) = (core.0 == c) && ((word == w) && (first / 16 == k))

-- equal masks of the two units are empty
abbrev pub GoodMasks : List Strike → ℕ → ℕ → Type 0
GoodMasks strikes c n =
    ((b : ℕ) → b < 4096 → mask strikes c A n b ≡ mask strikes c B n b)
    → (b : ℕ) → b < 4096 → mask strikes c A n b ≡ false

-- the premise
pub record Within (strikes : List Strike) : Type 0 where
  pub masks : (c n : ℕ) → c < 16 → GoodMasks strikes c n
  pub words : (c w k : ℕ) → c < 16 → w < 40 → count_by (strikes_word c w k) strikes ≤ 2

-- worked values

pub struck_once : mask (Packet (core_no 0) 2 A 2000 (Some 1) ∷ []) 0 A 2 2000 ≡ true
struck_once = refl

pub past_its_count : mask (Packet (core_no 0) 2 A 2000 (Some 1) ∷ []) 0 A 3 2000 ≡ false
past_its_count = refl

pub struck_twice :
    mask (Packet (core_no 0) 2 A 2000 (Some 1) ∷ Packet (core_no 0) 1 A 2000 None ∷ []) 0 A 2 2000
    ≡ false
struck_twice = refl

-- word 5 of core 0, at attempts 3 and 15 and a third one
abbrev with_third : ℕ → List Strike
with_third n = Word (core_no 0) 3 5 10 ∷ Word (core_no 0) 15 5 11 ∷ Word (core_no 0) n 5 12 ∷ []

pub two_in_a_block : count_by (strikes_word 0 5 0) (with_third 16) ≡ 2
two_in_a_block = refl

pub three_in_a_block : count_by (strikes_word 0 5 0) (with_third 12) ≡ 3
three_in_a_block = refl
