-- Bounds of counts.
use Rattle.std.specs.Prelude.{ℕ, ◌≤◌}
use Rattle.run_model.specs.declared.outputs.Counts.{Counts}

-- each count is at most this
pub record Below (most : ℕ) (n : Counts) : Type 0 where
  pub turns : n.turns ≤ most
  pub commits : n.commits ≤ most
  pub fails : n.fails ≤ most
  pub retries : n.retries ≤ most
  pub corrected : n.corrected ≤ most
  pub spared : n.spared ≤ most
  pub stopped : n.stopped ≤ most
  pub returned : n.returned ≤ most
