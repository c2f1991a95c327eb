-- Counts of faults: none falls, and an answer of failure comes only where a count rose.
use Rattle.std.specs.Prelude.{◌≡◌, ℕ, ◌+◌, ◌-◌, ◌^◌, ◌≤◌, min, OnErr, IfOk, Result}

-- A count that stands at the greatest u64 is taken as risen.
abbrev pub Rose : ℕ → ℕ → Type 0
Rose before now = min (before + 1) (2 ^ 64 - 1) ≤ now

pub record HasCause {T E : Type 0} (before now : ℕ) (result : Result T E) : Type 0 where
  pub later : before ≤ now
  pub failed : OnErr result (Rose before now)

-- of a write also: a write that takes 0 is a fault
pub record HasWriteCause {E : Type 0} (before now : ℕ) (result : Result ℕ E) : Type 0 where
  pub later : before ≤ now
  pub failed : OnErr result (Rose before now)
  pub nothing : IfOk result (λ n. n ≡ 0 → Rose before now)
