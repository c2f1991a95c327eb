-- The attempts at which bits begin or cease to be flipped. Source: choice of this project.
use Rattle.std.specs.Prelude.{ℕ, ◌+◌, ◌%◌, ◌<◌, ◌≡◌, Bool, false, ◌&&◌, ◌==◌, nat_le, nat_lt, not, length, slice_set, if◌then◌else◌, slice_index_or, List, [], ◌∷◌, Some, None, count_by}
use Rattle.run_model.specs.Premise.{same_unit}
use Rattle.run_model.specs.declared.faults.Unit.{Unit}
use Rattle.run_model.specs.declared.faults.Unit.TheVariants.{A, B}
use Rattle.fault_script.specs.declared.masks.Change.{Change}
use Rattle.run_model.specs.declared.faults.Strike.{Strike}
use Rattle.run_model.specs.declared.faults.Strike.TheVariants.{Packet, Fetch, Store, Word}

abbrev pub change : ℕ → ℕ → Unit → ℕ → Change
change core at unit bit = record { at = at; core = core; unit = unit; bit = bit }

-- a line flips its bit from its first attempt on, and once more past its last one
abbrev pub changes_of : Strike → List Change
changes_of (Packet core first unit bit None) = change core.0 first unit bit ∷ []
changes_of (Packet core first unit bit (Some count)) =
    change core.0 first unit bit ∷ change core.0 (first + count) unit bit ∷ []
changes_of (Fetch core first bit) = []
changes_of (Store core first bit) = []
changes_of (Word core first word bit) = []

-- a change of this bit of the packet of this core and unit
abbrev pub on : ℕ → Unit → ℕ → Change → Bool
on c u b x = ((x.core == c) && same_unit x.unit u) && (x.bit == b)

-- of this bit, in either unit
abbrev pub at_bit : ℕ → ℕ → Change → Bool
at_bit c b x = (x.core == c) && (x.bit == b)

abbrev pub by_then : ℕ → Unit → ℕ → ℕ → Change → Bool
by_then c u b n x = on c u b x && nat_le x.at n

abbrev pub odd : ℕ → Bool
odd k = k % 2 == 1

-- the mask, by the changes up to the attempt
abbrev pub changed : List Change → ℕ → Unit → ℕ → ℕ → Bool
changed changes c u n b = odd (count_by (by_then c u b n) changes)

abbrev pub GoodChanges : List Change → ℕ → ℕ → Type 0
GoodChanges changes c n =
    ((b : ℕ) → b < 4096 → changed changes c A n b ≡ changed changes c B n b)
    → (b : ℕ) → b < 4096 → changed changes c A n b ≡ false

abbrev pub at_of : Change → ℕ
at_of x = x.at

-- a change that is none, for places past the end
abbrev pub nothing : Change
nothing = change 0 0 A 0

-- the attempt of the change at a place
abbrev pub at_place : List Change → ℕ → ℕ
at_place changes i = at_of (slice_index_or changes i nothing)

-- no later change has the same attempt
abbrev pub Ends : List Change → ℕ → Type 0
Ends changes i = i + 1 < length changes → at_place changes i < at_place changes (i + 1)

-- no bit of a set is in it
abbrev pub NoneSet : List Bool → Type 0
NoneSet xs = (b : ℕ) → b < 4096 → slice_index_or xs b false ≡ false

-- a set after a hit
abbrev pub flipped : List Bool → Bool → ℕ → List Bool
flipped xs hit i =
    if hit && nat_lt i (length xs) then slice_set xs i (not (slice_index_or xs i false)) else xs
