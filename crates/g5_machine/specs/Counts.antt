-- What a machine counts.
-- Source: choice of this project.
use Rattle.std.specs.Prelude.{ℕ, ◌+◌, ◌*◌, ◌≤◌}
use Rattle.core_turns.specs.declared.outcomes.Outcome.{Outcome}
use Rattle.core_turns.specs.declared.outcomes.Outcome.TheVariants.{
  Committed,
  Failed,
  Idle,
  Retried,
  Spared,
  Stopped,
}

-- turns made, commits among them, and bytes of the console read and written
pub record Counted : Type 0 where
  pub turns : ℕ
  pub commits : ℕ
  pub read : ℕ
  pub written : ℕ

-- no more commits than turns, and at most 256 bytes of the console read or written at each
pub record IsCounted (c : Counted) : Type 0 where
  pub commits : c.commits ≤ c.turns
  pub read : c.read ≤ 256 * c.commits
  pub written : c.written ≤ 256 * c.commits

-- one turn more
abbrev pub turn_more : Counted → Counted
turn_more c = record c { turns = c.turns + 1 }

-- one commit more, which read and wrote so many bytes of the console
abbrev pub commit_more : ℕ → ℕ → Counted → Counted
commit_more read written c = record {
  turns = c.turns + 1;
  commits = c.commits + 1;
  read = c.read + read;
  written = c.written + written;
}

-- one turn more that came to this
abbrev pub counted_by : Outcome → ℕ → ℕ → Counted → Counted
counted_by Committed read written c = commit_more read written c
counted_by Idle read written c = turn_more c
counted_by (Failed why) read written c = turn_more c
counted_by (Retried r) read written c = turn_more c
counted_by (Spared k) read written c = turn_more c
counted_by Stopped read written c = turn_more c
