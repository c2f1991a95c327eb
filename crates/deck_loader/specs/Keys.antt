-- Where keys stand in a list. Source: choice of this project.
use Rattle.std.specs.Prelude.{◌≡◌, ℕ, ◌+◌, ◌*◌, Bool, false, ◌==◌, if◌then◌else◌, List, [], ◌∷◌, ◌++◌, Option, Some, None, slice_get}
use Rattle.std.specs.List.{list_any}
use Rattle.std.specs.BTreeMap.{get}
use Rattle.std.specs.declared.collections.BTreeMap.{BTreeMap}
use Rattle.std.specs.declared.alloc.Global.{Global}
use Rattle.std.specs.Ordering.{nat_cmp}

-- an ESDID with the number of its module as one number
abbrev pub item_key : ℕ → ℕ → ℕ
item_key owner id = owner * 4294967296 + id

abbrev pub is_key : ℕ → Option ℕ → Bool
is_key q None = false
is_key q (Some k) = k == q

-- the first place from n on at which a key stands
abbrev pub first_at : ℕ → ℕ → List (Option ℕ) → Option ℕ
first_at q n [] = None
first_at q n (k ∷ ks) = if is_key q k then Some n else first_at q (n + 1) ks

abbrev pub stands_in : Option ℕ → List (Option ℕ) → Bool
stands_in None ks = false
stands_in (Some k) ks = list_any (is_key k) ks

-- the first place from n on whose key stands earlier
abbrev pub first_again : ℕ → List (Option ℕ) → List (Option ℕ) → Option ℕ
first_again n earlier [] = None
first_again n earlier (k ∷ ks) =
    if stands_in k earlier then Some n else first_again (n + 1) (earlier ++ k ∷ []) ks

-- the first, else the second
abbrev pub or_then : Option ℕ → Option ℕ → Option ℕ
or_then (Some n) o = Some n
or_then None o = o

-- a map from each key to its first place
abbrev pub Places : List (Option ℕ) → BTreeMap ℕ ℕ Global → Type 0
Places ks m = (q : ℕ) → get nat_cmp m q ≡ first_at q 0 ks

-- the element at a place, where there is one
abbrev pub at_place : {X : Type 0} → List X → Option ℕ → Option X
at_place xs None = None
at_place xs (Some i) = slice_get xs i
