-- Fields that stand one behind another, as bytes and back. A number has its most significant byte first.
-- Source: choice of this project.
use Rattle.std.specs.Prelude.{ℕ, zero, suc, ◌+◌, ◌^◌, ◌<◌, List, [], ◌∷◌, ◌++◌, drop, slice_index, Option, Some, None, Bool, true, ◌&&◌, if◌then◌else◌, ⊤}
use Rattle.byteorder.specs.Endian.{big_bytes, big_number}

-- ---- one list for both directions

-- how many bytes a field has, its number, and whether that is one of its values
pub record Field : Type 0 where
  pub width : ℕ
  pub value : ℕ
  pub good : Bool

abbrev pub field : ℕ → ℕ → Bool → Field
field width value good = record { width = width; value = value; good = good }

abbrev pub widths : List Field → List ℕ
widths [] = []
widths (f ∷ fs) = f.width ∷ widths fs

abbrev pub values : List Field → List ℕ
values [] = []
values (f ∷ fs) = f.value ∷ values fs

-- how many bytes they have together
abbrev pub size : List Field → ℕ
size [] = 0
size (f ∷ fs) = f.width + size fs

-- each number has room in its bytes
abbrev pub AllFit : List Field → Type 0
AllFit [] = ⊤
AllFit (f ∷ fs) = (f.value < 256 ^ f.width) × AllFit fs

-- ---- written

abbrev pub bytes_of_fields : List Field → List ℕ
bytes_of_fields [] = []
bytes_of_fields (f ∷ fs) = big_bytes f.width f.value ++ bytes_of_fields fs

-- ---- read: numbers of these widths, and what stands behind them

abbrev pub AreBytes : List ℕ → Type 0
AreBytes bs = (i : ℕ) → slice_index bs i < 256

abbrev pub numbers : List ℕ → List ℕ → List ℕ
numbers [] bs = []
numbers (w ∷ ws) bs = big_number w bs ∷ numbers ws (drop w bs)

abbrev pub behind : List ℕ → List ℕ → List ℕ
behind [] bs = bs
behind (w ∷ ws) bs = behind ws (drop w bs)

-- so many parts that have fields of these widths each, and what stands behind them
abbrev pub many : {A : Type 0} → (List ℕ → A) → List ℕ → ℕ → List ℕ → List A
many part ws zero bs = []
many part ws (suc n) bs = part (numbers ws bs) ∷ many part ws n (behind ws bs)

abbrev pub behind_many : List ℕ → ℕ → List ℕ → List ℕ
behind_many ws zero bs = bs
behind_many ws (suc n) bs = behind_many ws n (behind ws bs)

-- ---- judged

abbrev pub all_good : List Field → Bool
all_good [] = true
all_good (f ∷ fs) = f.good && all_good fs

-- the first byte of the first field outside its values, where the first of all is the byte `at`
abbrev pub first_bad : ℕ → List Field → Option ℕ
first_bad at [] = None
first_bad at (f ∷ fs) = if f.good then first_bad (at + f.width) fs else Some at
