-- How modes, retries and log entries of one turn of a CPU belong together.
-- Source: choice of this project (retry, spares, check-stop).
use Rattle.std.specs.Prelude.{◌≡◌, ℕ, ◌+◌, ◌<◌, ◌≤◌, true, false, ◌||◌}
use Rattle.std.specs.List.{list_any}
use Rattle.run_model.specs.declared.faults.Mode.TheVariants.{Running, Recovering}
use Rattle.run_model.specs.Cores.{Cores, Did}
use Rattle.run_model.specs.Since.{commits_of}
use Rattle.run_model.specs.Sorts.{is_fail, is_retry, is_retry_of, is_spared, is_no_spare, is_stop, is_reason}

-- t is the threshold
pub record TurnModes (t : ℕ) (s : Cores) (i : ℕ) (d : Did) : Type 0 where
  -- a CPU becomes recovering by FAIL, from running, and is so after no other turn
  pub fails : list_any is_fail d.whats ≡ true → (s.mode i ≡ Running) × (d.after.mode i ≡ Recovering)
  pub recovers : d.after.mode i ≡ Recovering → list_any is_fail d.whats ≡ true
  -- RETRY n comes of a recovering CPU with n - 1 retries, below the threshold
  pub retries : (n : ℕ) → list_any (is_retry_of n) d.whats ≡ true
      → (s.mode i ≡ Recovering) × (s.retries i < t) × (n ≡ s.retries i + 1)
      × (d.after.mode i ≡ Running) × (d.after.retries i ≡ n)
  -- NOSPARE of a recovering CPU with as many retries as the threshold
  pub none_left : list_any is_no_spare d.whats ≡ true → (s.mode i ≡ Recovering) × (t ≤ s.retries i)
  -- STOP comes with UNCORRECTABLE or NOSPARE
  pub stops : list_any is_stop d.whats ≡ true → list_any is_reason d.whats ≡ true
  -- a commit and SPARED make the retries 0; without these and RETRY they stay
  pub cleared : (commits_of i d.event || list_any is_spared d.whats) ≡ true → d.after.retries i ≡ 0
  pub kept : (commits_of i d.event || list_any is_spared d.whats) ≡ false
      → list_any is_retry d.whats ≡ false → d.after.retries i ≡ s.retries i
