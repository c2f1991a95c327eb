-- What is counted of turns that are not written. Source: choice of this project.
use Rattle.std.specs.Prelude.{◌≡◌, ℕ, ◌+◌, ◌*◌, ◌≤◌, List, length}
use Rattle.run_loop.specs.Bounds.{Below}
use Rattle.run_loop.specs.Engines.{EngineView}
use Rattle.run_loop.specs.Making.{Tells}
use Rattle.run_model.specs.Counts.{count_turns, counts, none_made}
use Rattle.run_model.specs.Pieces.{text}
use Rattle.run_model.specs.Runs.{Told}
use Rattle.run_model.specs.Texts.{turns_pieces, trace_bytes}
use Rattle.run_model.specs.declared.outputs.Place.TheVariants.{Trace}
use Rattle.run_model.specs.declared.schedules.RunKind.{RunKind}
use Rattle.gen_runs.specs.declared.tallies.Tally.{Tally}

-- before the first turn
abbrev pub nothing_counted : Tally
nothing_counted = record { counts = none_made; trace = 0 }

-- by how much a tally rises at most in so many turns
pub record RisesBy (n : ℕ) (start sum : Tally) : Type 0 where
  pub counts : (most : ℕ) → Below most start.counts → Below (most + 45 * n) sum.counts
  pub commits : sum.counts.commits ≤ start.counts.commits + n
  pub trace : sum.trace ≤ start.trace + 2048 * n

-- turns of these kinds were made after those of one tally, and are counted in another
pub record Tallies (kinds : List RunKind) (start sum : Tally) (old new : EngineView) : Type 0 where
  pub told : List Told
  pub tells : Tells kinds told old new
  pub counted : sum.counts ≡ count_turns start.counts told
  pub traced : sum.trace
      ≡ start.trace + length (text Trace (turns_pieces start.counts.commits told))
  pub rises : RisesBy (length kinds) start sum
  pub ready : new.ready

-- turns of these kinds were made, and this is what is counted of them
pub record IsTally (kinds : List RunKind) (tally : Tally) (old new : EngineView) : Type 0 where
  pub told : List Told
  pub tells : Tells kinds told old new
  pub counted : tally.counts ≡ counts told
  pub traced : tally.trace ≡ trace_bytes told
