-- Strikes in the order of their cores and first attempts, and those of one core and attempt among
-- them. Source: choice of this project.
use Rattle.std.specs.Prelude.{ℕ, ◌+◌, ◌-◌, ◌*◌, ◌^◌, ◌<◌, ◌≤◌, ◌≡◌, ◌==◌, Bool, true, false, if◌then◌else◌, List, [], ◌∷◌, length, take, drop, slice_index_or, flat_map, Option, Some, None}
use Rattle.std.specs.List.Sorted.{IsNonDecreasingBy, IsPermutation, IsStableByKey}
use Rattle.std.specs.Ordering.{nat_cmp}
use Rattle.run_model.specs.Script.{AllInRange, InForm}
use Rattle.run_model.specs.declared.faults.Strike.{Strike}
use Rattle.run_model.specs.declared.faults.Strike.TheVariants.{Packet, Fetch, Store, Word}

-- one number for a core and an attempt
abbrev pub key : ℕ → ℕ → ℕ
key core attempt = core * 2 ^ 64 + attempt

-- of a strike, by its first attempt
abbrev pub key_of : Strike → ℕ
key_of (Packet core first unit bit count) = key core.0 first
key_of (Fetch core first bit) = key core.0 first
key_of (Store core first bit) = key core.0 first
key_of (Word core first word bit) = key core.0 first

-- ---- strikes at one attempt, and at many

abbrev pub is_one : Option ℕ → Bool
is_one None = false
is_one (Some count) = count == 1

-- it strikes at its first attempt alone
abbrev pub is_brief : Strike → Bool
is_brief (Packet core first unit bit count) = is_one count
is_brief (Fetch core first bit) = true
is_brief (Store core first bit) = true
is_brief (Word core first word bit) = true

-- the strike, where it is not brief
abbrev pub if_lasting : Strike → List Strike
if_lasting s = if is_brief s then [] else s ∷ []

-- ---- strikes in order

-- sorted by their keys; those of equal keys keep their order
pub record IsIndex (strikes sorted : List Strike) : Type 0 where
  pub same : IsPermutation strikes sorted
  pub rises : IsNonDecreasingBy key_of sorted
  pub stable : IsStableByKey key_of nat_cmp strikes sorted

-- the keys of those before `low` are below q, of those from `high` on they are not
pub record IsFirst (q : ℕ) (sorted : List Strike) (low high : ℕ) : Type 0 where
  pub below : (k : ℕ) (d : Strike) → k < low → k < length sorted
      → key_of (slice_index_or sorted k d) < q
  pub above : (k : ℕ) (d : Strike) → high ≤ k → k < length sorted
      → q ≤ key_of (slice_index_or sorted k d)

-- those of key q
pub record IsBucket (q : ℕ) (sorted bucket : List Strike) : Type 0 where
  pub low : ℕ
  pub high : ℕ
  pub is : bucket ≡ take (high - low) (drop low sorted)
  pub order : low ≤ high
  pub below : (k : ℕ) (d : Strike) → k < low → k < length sorted
      → key_of (slice_index_or sorted k d) < q
  pub above : (k : ℕ) (d : Strike) → high ≤ k → k < length sorted
      → q < key_of (slice_index_or sorted k d)

-- strikes in form, the same in order, those of them that are not brief, and these in order
pub record IsIndexed (strikes sorted lasting lasting_sorted : List Strike) : Type 0 where
  pub form : InForm strikes
  pub index : IsIndex strikes sorted
  pub sorted_ranges : AllInRange sorted
  pub lasts : lasting ≡ flat_map if_lasting strikes
  pub lasting_ranges : AllInRange lasting
  pub lasting_index : IsIndex (flat_map if_lasting strikes) lasting_sorted
  pub lasting_sorted_ranges : AllInRange lasting_sorted
