-- A pool of cores: the spares and the fenced ones, each list in the order of its numbers.
-- Source: choice of this project (sparing).
use Rattle.std.specs.Prelude.{⊤, ◌≡◌, ℕ, ◌+◌, ◌<◌, ◌≤◌, List, [], ◌∷◌, Bool, Option, ◌==◌, nat_lt, if◌then◌else◌}
use Rattle.std.specs.List.{position, position_or_len}
use Rattle.run_model.specs.Cores.{lowest}

pub record Pooled (S F : Type 0) : Type 0 where
  pub spares : List S
  pub fenced : List F

-- In what follows f gives the number of a core.

-- how many of a list have the number k
abbrev pub holds : {X : Type 0} → (X → ℕ) → ℕ → List X → ℕ
holds f k [] = 0
holds f k (x ∷ xs) = (if f x == k then 1 else 0) + holds f k xs

-- whether one of a list has the number k
abbrev pub stands : {X : Type 0} → (X → ℕ) → List X → ℕ → Bool
stands f xs k = nat_lt 0 (holds f k xs)

-- the lowest number of a list whose numbers are below 16
unfoldable pub lowest_number : {X : Type 0} → (X → ℕ) → List X → Option ℕ
lowest_number f xs = lowest (stands f xs) 0 16

-- no number stands twice, in two lists together; g gives the numbers of the second
pub record Apart {S F : Type 0} (f : S → ℕ) (g : F → ℕ) (xs : List S) (ys : List F) : Type 0 where
  pub once : (k : ℕ) → holds f k xs + holds g k ys ≤ 1

-- the number k stands nowhere in a pool
abbrev pub Absent : {S F : Type 0} → (S → ℕ) → (F → ℕ) → ℕ → Pooled S F → Type 0
Absent f g k p = (holds f k p.spares ≡ 0) × (holds g k p.fenced ≡ 0)

-- each number is above the one before it, and all are from k to 15
abbrev pub Ascends : {X : Type 0} → (X → ℕ) → ℕ → List X → Type 0
Ascends f k [] = ⊤
Ascends f k (x ∷ xs) = (k ≤ f x) × (f x < 16) × Ascends f (f x + 1) xs

-- the place of the first that has a greater number than n, or the end
unfoldable pub place_above : {X : Type 0} → (X → ℕ) → ℕ → List X → ℕ
place_above f n xs = position_or_len (λ x. nat_lt n (f x)) xs

-- one more, before the first that has a greater number
abbrev pub put : {X : Type 0} → (X → ℕ) → X → List X → List X
put f x [] = x ∷ []
put f x (y ∷ ys) = if nat_lt (f x) (f y) then x ∷ y ∷ ys else y ∷ put f x ys

-- without the first that has the number k
abbrev pub without : {X : Type 0} → (X → ℕ) → ℕ → List X → List X
without f k [] = []
without f k (y ∷ ys) = if f y == k then ys else y ∷ without f k ys

-- the place of the first that has the number k
unfoldable pub place_with : {X : Type 0} → (X → ℕ) → ℕ → List X → Option ℕ
place_with f k xs = position (λ x. f x == k) xs

-- x, of number k, is taken out of a list, and nothing else is
pub record TakenOut {X : Type 0} (f : X → ℕ) (k : ℕ) (x : X) (before after : List X) : Type 0 where
  pub number : f x ≡ k
  pub rest : after ≡ without f k before
  pub whole : before ≡ put f x after
