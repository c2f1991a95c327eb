-- What strikes flip, one at a time. Source: choice of this project.
use Rattle.std.specs.Prelude.{ℕ, ◌+◌, ◌*◌, ◌/◌, ◌<◌, ◌≤◌, ◌≡◌, ◌==◌, List, slice_index, bit_xor, if◌then◌else◌, Option, Some, None, ⊤}
use Rattle.run_model.specs.Strikes.{weight, in_word, flips}
use Rattle.run_model.specs.declared.faults.Strike.{Strike}

-- the mask of one bit
abbrev pub bit_mask : ℕ → ℕ → ℕ
bit_mask bit k = if bit / 8 == k then weight bit else 0

-- a bit, where there is one, is no greater than this
abbrev pub UpTo : ℕ → Option ℕ → Type 0
UpTo most None = ⊤
UpTo most (Some bit) = bit ≤ most

-- this is flipped in the words of a core, and nothing else
abbrev pub Flips : (ℕ → ℕ) → ℕ → List ℕ → List ℕ → Type 0
Flips f core old new = (c w : ℕ) → w < 40 → slice_index new (c * 40 + w)
    ≡ (if c == core then bit_xor (slice_index old (c * 40 + w)) (f w)
    else slice_index old (c * 40 + w))

-- one strike at attempt n, and all of some
abbrev pub LandsOne : Strike → ℕ → ℕ → List ℕ → List ℕ → Type 0
LandsOne s core n old new = Flips (in_word s core n) core old new

abbrev pub LandsAll : List Strike → ℕ → ℕ → List ℕ → List ℕ → Type 0
LandsAll ls core n old new = Flips (flips ls core n) core old new

-- those of the rest are left to be landed, of all
abbrev pub LandsSoFar : List Strike → List Strike → ℕ → ℕ → List ℕ → List ℕ → Type 0
LandsSoFar rest ls core n old now = (c w : ℕ) → w < 40
    → (if c == core then bit_xor (slice_index now (c * 40 + w)) (flips rest core n w)
    else slice_index now (c * 40 + w))
    ≡ (if c == core then bit_xor (slice_index old (c * 40 + w)) (flips ls core n w)
    else slice_index old (c * 40 + w))
