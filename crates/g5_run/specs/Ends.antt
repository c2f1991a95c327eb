-- How the program ends: each status by its cause, with what is held then and what is said of it.
-- Source: choice of this project.
use Rattle.std.specs.Prelude.{◌≡◌, ◌⊎◌, ℕ, List, Bool, true, IsTrue, ◌↔◌, Option, Some, None, length, codes}
use Rattle.g5_outside.specs.Causes.{Rose}
use Rattle.g5_outside.specs.Views.{ShelfView, SinkView}
use Rattle.g5_words.specs.Ranges.{IsInLimits}
use Rattle.g5_writing.specs.Starts.{OnlyNames}
use Rattle.machine_runs.specs.Whole.{pieces_by}
use Rattle.program_model.specs.Accepted.{Job}
use Rattle.program_model.specs.Commands.{Command, JobNames, assemble, audit, debug, disassemble, generate, link, migrate, run}
use Rattle.program_model.specs.Inputs.{input_name}
use Rattle.program_model.specs.Statuses.{line_of}
use Rattle.program_model.specs.declared.status.Status.{Status}
use Rattle.program_model.specs.declared.status.Status.TheVariants.{Done, CheckStopped, Usage, WriteFault, NoMemory}
use Rattle.run_model.specs.declared.logs.Config.{Config}
use Rattle.run_model.specs.declared.outputs.Counts.{Counts}
use Rattle.run_model.specs.Counts.{counts}
use Rattle.run_model.specs.Pieces.{IsCut, Piece}
use Rattle.run_model.specs.Premise.{Within}
use Rattle.run_model.specs.Runs.{Told}
use Rattle.run_model.specs.Texts.{report, whole}
use Rattle.silicon.specs.Tape.{tells as tells_tape}
use Rattle.machine_runs.specs.Jobs.{LeavesSilicon, job_hands}
use Rattle.status_lines.specs.Says.{Says}
use Rattle.g5_run.specs.Accepting.{IsJob, IsRefused}
use Rattle.g5_run.specs.Assembling.{MakesAssembled}
use Rattle.g5_run.specs.Conversing.{DebugEnds}
use Rattle.g5_run.specs.Converts.{Converts}
use Rattle.g5_run.specs.Generates.{Generates}
use Rattle.g5_run.specs.Judges.{AuditEnds}
use Rattle.g5_run.specs.Leaving.{Beside, SiliconAfter, status_by}
use Rattle.g5_run.specs.Linking.{MakesLinked}
use Rattle.g5_run.specs.Shows.{DisEnds}
use Rattle.g5_run.specs.Holding.{Holds, HasOutputs, Untouched}
use Rattle.machine_runs.specs.RunTells.{RunTells, IsSound, state_after, turns}

-- ---- a run that was made to its end

-- all turns of the schedule were made, these are their counts, and the outputs are whole
pub record EndsWhole (names : JobNames) (c : Config) (count : Counts) (within : Bool)
    (a b : ShelfView) (o p : SinkView) (z : SiliconAfter) : Type 0 where
  pub job : Job
  pub inputs : IsJob names c job a
  pub premise : IsTrue within ↔ Within job.strikes
  pub told : List Told
  pub tells : RunTells c job told
  pub all : length told ≡ length (turns job)
  pub counted : count ≡ counts told
  pub holds : Holds names (whole c told) b o p
  pub outputs : HasOutputs names b
  pub silicon : IsSound c job (length (turns job))
      → LeavesSilicon c (state_after c job (length (turns job))) z.chip
  pub handed : IsSound c job (length (turns job))
      → z.after ≡ tells_tape z.before (job_hands c job)
  pub told_still : b.told ≡ a.told
  pub found : b.found ≡ true

-- the report is said
pub record Reports (names : JobNames) (c : Config) (a b : ShelfView) (o p e f : SinkView)
    (z : SiliconAfter) (status : Status) : Type 0 where
  pub count : Counts
  pub within : Bool
  pub whole : EndsWhole names c count within a b o p z
  pub status_is : status ≡ status_by count
  pub said : Says (report within count) e f

-- ---- a run whose outputs were cut

-- the pieces before a failed write are whole, that one is there in part or not at all, and those
-- behind it are missing; the tail of the log is among them only once all turns were made
pub record EndsCut (names : JobNames) (c : Config) (a b : ShelfView) (o p : SinkView) : Type 0 where
  pub job : Job
  pub inputs : IsJob names c job a
  pub told : List Told
  pub tells : RunTells c job told
  pub ended : Bool
  pub all : IsTrue ended → length told ≡ length (turns job)
  pub held : List Piece
  pub cut : IsCut held (pieces_by ended c told)
  pub holds : Holds names held b o p
  pub named : IsTrue b.told → OnlyNames names.log names.trace b
  pub told_still : b.told ≡ a.told
  pub cause : Rose a.write_faults b.write_faults ⊎ Rose o.faults p.faults
  pub found : b.found ≡ true

-- ---- by its status

-- nothing was begun, for this cause
pub record EndsUntouched (names : JobNames) (c : Config) (a b : ShelfView) (o p : SinkView)
    (status : Status) : Type 0 where
  pub because : IsRefused names c a b status
  pub untouched : Untouched a b o p

-- before all turns were made
abbrev pub EndsEarly : JobNames → Config → ShelfView → ShelfView → SinkView → SinkView → Status
    → Type 0
EndsEarly names c a b o p Done = ⊥
EndsEarly names c a b o p CheckStopped = ⊥
EndsEarly names c a b o p WriteFault = EndsCut names c a b o p
EndsEarly names c a b o p status = EndsUntouched names c a b o p status

abbrev pub JobEnds : JobNames → Config → ShelfView → ShelfView → SinkView → SinkView → SinkView
    → SinkView → SiliconAfter → Status → Type 0
JobEnds names c a b o p e f z Done = Reports names c a b o p e f z Done
JobEnds names c a b o p e f z CheckStopped = Reports names c a b o p e f z CheckStopped
JobEnds names c a b o p e f z status =
    EndsEarly names c a b o p status × Says (line_of (input_name (run names c)) status) e f

-- ---- how the program ends, by its status and by what the words ask for

-- nothing was touched, and this was said
pub record SaysAlone (text : List ℕ) (a b : ShelfView) (o p e f : SinkView) : Type 0 where
  pub untouched : Untouched a b o p
  pub said : Says text e f

-- how a command ends that is built
abbrev pub CommandEnds : Option Command → ShelfView → ShelfView → SinkView → SinkView → SinkView
    → SinkView → Beside → Status → Type 0
CommandEnds (Some (run names c)) a b o p e f z status =
    IsInLimits c × JobEnds names c a b o p e f z.silicon status
CommandEnds (Some (debug names c)) a b o p e f z status =
    IsInLimits c × DebugEnds names c a b o p e f z status
CommandEnds (Some (generate number turns)) a b o p e f z status =
    Generates number turns a b o p e f z.silicon status
CommandEnds (Some (migrate old new)) a b o p e f z status = Converts old new a b o p e f status
CommandEnds (Some (assemble source deck)) a b o p e f z status =
    MakesAssembled source deck a b o p e f status
CommandEnds (Some (disassemble deck at count)) a b o p e f z status =
    DisEnds deck at count a b o p e f status
CommandEnds (Some (link out decks)) a b o p e f z status = MakesLinked out decks a b o p e f status
CommandEnds (Some (audit log)) a b o p e f z status = AuditEnds log a b o p e f status
CommandEnds (Some other) a b o p e f z status = ⊥
CommandEnds None a b o p e f z status = ⊥

-- memory may be wanted before the words are read
abbrev pub Ends : Option Command → ShelfView → ShelfView → SinkView → SinkView → SinkView
    → SinkView → Beside → Status → Type 0
Ends asked a b o p e f z Usage = (asked ≡ None) × SaysAlone (codes "usage\n") a b o p e f
Ends asked a b o p e f z NoMemory = SaysAlone (codes "no memory\n") a b o p e f
Ends asked a b o p e f z status = CommandEnds asked a b o p e f z status
