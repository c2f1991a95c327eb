-- Calls in memory, some of which are to fail, and how much one of them moves.
use Rattle.std.specs.Prelude.{ℕ, ◌+◌, ◌-◌, ◌^◌, ◌==◌, Bool, List, min}
use Rattle.std.specs.List.{list_any}
use Rattle.g5_outside.specs.declared.planned_calls.PlannedCalls.{PlannedCalls}

-- the numbers of the calls that fail, and how many calls were made
pub record Plan : Type 0 where
  pub failing : List ℕ
  pub made : ℕ

abbrev pub fresh_plan : List ℕ → Plan
fresh_plan failing = record { failing = failing; made = 0 }

-- calls are numbered from 1 up to the greatest u64, where the number stays
abbrev pub next_number : Plan → ℕ
next_number plan = min (plan.made + 1) (2 ^ 64 - 1)

abbrev pub fails_next : Plan → Bool
fails_next plan = list_any (λ number. number == next_number plan) plan.failing

abbrev pub after_call : Plan → Plan
after_call plan = record { failing = plan.failing; made = next_number plan }

abbrev pub plan_of : PlannedCalls → Plan
plan_of calls = record { failing = calls.failing.items; made = calls.made }

-- the most bytes that one call moves
abbrev pub step_of : PlannedCalls → ℕ
step_of calls = calls.step
