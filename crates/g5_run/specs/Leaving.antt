-- What a command leaves beside files and outputs: its status by its counts, the silicon, and the source of a
-- session's lines. Source: choice of this project.
use Rattle.std.specs.Prelude.{◌≡◌, ◌==◌, if◌then◌else◌, Option, Some}
use Rattle.g5_outside.specs.Views.{SourceView}
use Rattle.program_model.specs.Commands.{Command, debug}
use Rattle.program_model.specs.declared.status.Status.{Status}
use Rattle.program_model.specs.declared.status.Status.TheVariants.{Done, CheckStopped}
use Rattle.run_model.specs.declared.outputs.Counts.{Counts}
use Rattle.silicon.specs.Chip.{Chip}
use Rattle.silicon.specs.Tape.{Tape}

-- 20 where a CPU was check-stopped
abbrev pub status_by : Counts → Status
status_by n = if n.stopped == 0 then Done else CheckStopped

-- the silicon after it, and what it tells of what was handed in: before the run, and after it
pub record SiliconAfter : Type 0 where
  pub chip : Chip
  pub before : Tape
  pub after : Tape

abbrev pub silicon_after : Chip → Tape → Tape → SiliconAfter
silicon_after z v w = record { chip = z; before = v; after = w }

-- the silicon, and the source of a session's lines before and after
pub record Beside : Type 0 where
  pub silicon : SiliconAfter
  pub keys : SourceView
  pub keys_after : SourceView

abbrev pub beside : SiliconAfter → SourceView → SourceView → Beside
beside z k l = record { silicon = z; keys = k; keys_after = l }

-- the lines of a session are read in `debug` alone
abbrev pub KeepsKeys : Option Command → SourceView → SourceView → Type 0
KeepsKeys (Some (debug names c)) old new = Unit {0}
KeepsKeys other old new = new ≡ old
