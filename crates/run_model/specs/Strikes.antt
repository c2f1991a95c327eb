-- What the strikes of a script do at an attempt of a core, and the premise at that attempt.
-- Source: choice of this project. Strikes that fall on one bit are combined by exclusive or.
use Rattle.std.specs.Prelude.{ℕ, zero, suc, ◌+◌, ◌-◌, ◌/◌, ◌%◌, ◌^◌, ◌<◌, ◌≤◌, ◌≡◌, Bool, true, false, ◌==◌, ◌&&◌, nat_le, if◌then◌else◌, List, [], ◌∷◌, Option, Some, None, bit_xor, refl}
use Rattle.run_model.specs.declared.faults.Unit.{Unit}
use Rattle.run_model.specs.declared.faults.Unit.TheVariants.{A, B}
use Rattle.run_model.specs.declared.faults.Strike.{Strike}
use Rattle.run_model.specs.declared.faults.Strike.TheVariants.{Packet, Fetch, Store, Word}
use Rattle.run_model.specs.declared.faults.Cause.{Cause}
use Rattle.run_model.specs.declared.faults.Cause.TheVariants as causes
use Rattle.run_model.specs.Premise.{same_unit, covers}
use Rattle.run_model.specs.Script.{core_no}

-- ---- packets: bit 8 k + j is bit j, counted from the left, of byte k

abbrev pub weight : ℕ → ℕ
weight bit = 2 ^ (7 - bit % 8)

-- what one line flips in byte k of the packet of this core and unit at attempt n
abbrev pub in_byte : Strike → ℕ → Unit → ℕ → ℕ → ℕ
in_byte (Packet core first unit bit count) c u n k =
    if (core.0 == c) && (same_unit unit u && (covers first count n && (bit / 8 == k)))
    then weight bit else 0
in_byte (Fetch core first bit) c u n k = 0
in_byte (Store core first bit) c u n k = 0
in_byte (Word core first word bit) c u n k = 0

-- byte k of the mask of the packet
unfoldable pub mask_byte : List Strike → ℕ → Unit → ℕ → ℕ → ℕ
mask_byte [] c u n k = 0
mask_byte (s ∷ ss) c u n k = bit_xor (in_byte s c u n k) (mask_byte ss c u n k)

-- whether two masks are one in their first k bytes
abbrev pub same_below : ℕ → (ℕ → ℕ) → (ℕ → ℕ) → Bool
same_below zero f g = true
same_below (suc k) f g = (f k == g k) && same_below k f g

unfoldable pub same_masks : List Strike → ℕ → ℕ → Bool
same_masks ls c n = same_below 512 (mask_byte ls c A n) (mask_byte ls c B n)

-- ---- latches: the first line of the core and attempt has the bit that is flipped

abbrev pub fetch_in : Strike → ℕ → ℕ → Option ℕ
fetch_in (Packet core first unit bit count) c n = None
fetch_in (Fetch core first bit) c n = if (core.0 == c) && (first == n) then Some bit else None
fetch_in (Store core first bit) c n = None
fetch_in (Word core first word bit) c n = None

abbrev pub store_in : Strike → ℕ → ℕ → Option ℕ
store_in (Packet core first unit bit count) c n = None
store_in (Fetch core first bit) c n = None
store_in (Store core first bit) c n = if (core.0 == c) && (first == n) then Some bit else None
store_in (Word core first word bit) c n = None

abbrev pub first_some : Option ℕ → Option ℕ → Option ℕ
first_some None o = o
first_some (Some bit) o = Some bit

unfoldable pub fetch_bit : List Strike → ℕ → ℕ → Option ℕ
fetch_bit [] c n = None
fetch_bit (s ∷ ss) c n = first_some (fetch_in s c n) (fetch_bit ss c n)

unfoldable pub store_bit : List Strike → ℕ → ℕ → Option ℕ
store_bit [] c n = None
store_bit (s ∷ ss) c n = first_some (store_in s c n) (store_bit ss c n)

-- ---- why an attempt fails, if it does

abbrev pub cause_by : Option ℕ → Bool → Option ℕ → Option Cause
cause_by (Some bit) same stored = Some causes.Fetch
cause_by None false stored = Some causes.Mismatch
cause_by None true (Some bit) = Some causes.Store
cause_by None true None = None

unfoldable pub cause : List Strike → ℕ → ℕ → Option Cause
cause ls c n = cause_by (fetch_bit ls c n) (same_masks ls c n) (store_bit ls c n)

-- ---- checkpoint words: position p has the weight 2^p

-- what one line flips in word w of the core as attempt n begins
abbrev pub in_word : Strike → ℕ → ℕ → ℕ → ℕ
in_word (Packet core first unit bit count) c n w = 0
in_word (Fetch core first bit) c n w = 0
in_word (Store core first bit) c n w = 0
in_word (Word core first word bit) c n w =
    if (core.0 == c) && ((first == n) && (word == w)) then 2 ^ bit else 0

-- what all lines flip there, as one number
unfoldable pub flips : List Strike → ℕ → ℕ → ℕ → ℕ
flips [] c n w = 0
flips (s ∷ ss) c n w = bit_xor (in_word s c n w) (flips ss c n w)

-- whether a line strikes word w of the core in the 16 attempts of n's block, n the last
abbrev pub hits_so_far : Strike → ℕ → ℕ → ℕ → ℕ
hits_so_far (Packet core first unit bit count) c n w = 0
hits_so_far (Fetch core first bit) c n w = 0
hits_so_far (Store core first bit) c n w = 0
hits_so_far (Word core first word bit) c n w =
    if (core.0 == c) && ((word == w) && ((first / 16 == n / 16) && nat_le first n)) then 1 else 0

-- how many lines have struck the word in that block, up to n
unfoldable pub struck : List Strike → ℕ → ℕ → ℕ → ℕ
struck [] c n w = 0
struck (s ∷ ss) c n w = hits_so_far s c n w + struck ss c n w

-- ---- the premise at attempt n of core c, with the attempts after it left out

pub record WithinAt (ls : List Strike) (c n : ℕ) : Type 0 where
  pub masks : same_masks ls c n ≡ true → (k : ℕ) → k < 512 → mask_byte ls c A n k ≡ 0
  pub words : (w : ℕ) → w < 40 → struck ls c n w ≤ 2

-- the same where so many attempts of each core were begun
abbrev pub SoundAt : List Strike → (ℕ → ℕ) → Type 0
SoundAt ls begun = (c n : ℕ) → n < begun c → WithinAt ls c n

-- ---- worked values

abbrev two_lines : List Strike
two_lines = Packet (core_no 0) 2 A 2000 (Some 1) ∷ Packet (core_no 0) 1 A 2000 None ∷ []

-- bit 2000 is the first of byte 250
pub one_bit : mask_byte two_lines 0 A 3 250 ≡ 0x80
unfolding mask_byte
one_bit = refl

pub twice_is_none : mask_byte two_lines 0 A 2 250 ≡ 0
unfolding mask_byte
twice_is_none = refl

pub fails_by_difference : cause two_lines 0 3 ≡ Some causes.Mismatch
unfolding cause same_masks mask_byte fetch_bit store_bit
fails_by_difference = refl

pub fetch_before_all :
    cause (Store (core_no 0) 3 9 ∷ Fetch (core_no 0) 3 64 ∷ two_lines) 0 3 ≡ Some causes.Fetch
unfolding cause same_masks mask_byte fetch_bit store_bit
fetch_before_all = refl

pub store_after_masks : cause (Store (core_no 0) 2 9 ∷ two_lines) 0 2 ≡ Some causes.Store
unfolding cause same_masks mask_byte fetch_bit store_bit
store_after_masks = refl

pub nothing_fails : cause two_lines 0 2 ≡ None
unfolding cause same_masks mask_byte fetch_bit store_bit
nothing_fails = refl

abbrev on_word : ℕ → Strike
on_word bit = Word (core_no 0) 3 5 bit

pub flipped_twice : flips (on_word 10 ∷ on_word 10 ∷ on_word 11 ∷ []) 0 3 5 ≡ 2 ^ 11
unfolding flips
flipped_twice = refl
