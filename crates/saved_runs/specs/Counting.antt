-- What is carried over from the first turns of a run to the rest of it.
-- Source: choice of this project.
use Rattle.std.specs.Prelude.{◌≡◌, ◌≤◌, ℕ}
use Rattle.run_model.specs.declared.outputs.Counts.{Counts}

-- The counts that a save has, and those that the tail of a log and a report show, are the same.
-- Failures and corrections are not among them.
pub record SameCounts (m n : Counts) : Type 0 where
  pub turns : m.turns ≡ n.turns
  pub commits : m.commits ≡ n.commits
  pub retries : m.retries ≡ n.retries
  pub spared : m.spared ≡ n.spared
  pub stopped : m.stopped ≡ n.stopped
  pub returned : m.returned ≡ n.returned

-- so many turns were made, and each of the other counts is at most that
pub record FewCounts (n : Counts) (made : ℕ) : Type 0 where
  pub turns : n.turns ≡ made
  pub commits : n.commits ≤ made
  pub retries : n.retries ≤ made
  pub spared : n.spared ≤ made
  pub stopped : n.stopped ≤ made
  pub returned : n.returned ≤ made
