-- A session and its commands. Source: choice of this project.
use Rattle.std.specs.Prelude.{◌+◌, ◌≡◌, ◌≢◌, ℕ, ◌<◌, ◌≤◌, List, Option, Some, None, drop, take}
use Rattle.g5_machine.specs.Standing.{StandsByMode}
use Rattle.machine_runs.specs.declared.twin_machine.TwinMachine.{TwinMachine}
use Rattle.program_model.specs.Debugger.{answer}
use Rattle.program_model.specs.Session.{answered, asked}
use Rattle.program_model.specs.Session.{Session as ModelSession}
use Rattle.program_model.specs.declared.questions.Question.{Question}
use Rattle.program_model.specs.declared.questions.Question.TheVariants.{Turns, Quit as AskedToQuit}
use Rattle.run_loop.specs.Engines.{EngineView}
use Rattle.run_loop.specs.Making.{Tells}
use Rattle.run_model.specs.Cores.{first_cores}
use Rattle.run_model.specs.Counts.{count_turns}
use Rattle.run_model.specs.Runs.{Model, Told}
use Rattle.run_model.specs.declared.faults.Strike.{Strike}
use Rattle.run_model.specs.declared.logs.Config.{Config}
use Rattle.run_model.specs.declared.outputs.Counts.{Counts}
use Rattle.run_model.specs.declared.schedules.RunKind.{RunKind}
use Rattle.silicon.specs.Chip.{Chip}
use Rattle.twin_units.specs.UnitsSeen.{plain}
use Rattle.g5_debugger.specs.Answering.{TellsTurns}
use Rattle.g5_debugger.specs.Left.{left}
use Rattle.g5_debugger.specs.declared.session.Answer.{Answer}
use Rattle.g5_debugger.specs.declared.session.Answer.TheVariants.{Text, Unknown, Quit}
use Rattle.g5_debugger.specs.declared.session.Report.{Report}
use Rattle.g5_debugger.specs.declared.session.Session.{Session}

-- a machine that made no turn, and two units that were not called
pub record IsUnused (e : TwinMachine) : Type 0 where
  pub machine : StandsByMode e.machine (first_cores e.machine.config)
  pub calls_a : (plain e.a).calls ≡ 0
  pub calls_b : (plain e.b).calls ≡ 0

-- of each core at most so many attempts were begun, beside 1,000,000 that there can be of a run before
abbrev pub HasBegun : ℕ → Chip → Type 0
HasBegun most z = (k : ℕ) → k < 16 → z.begun k ≤ most + 1000000

-- the turns of its schedule that are left
abbrev pub left_of : Session → List RunKind
left_of s = left s.schedule s.reached.place

abbrev pub report_on : Counts → Report
report_on n = record {
  turns = n.turns;
  commits = n.commits;
  retries = n.retries;
  spared = n.spared;
  stopped = n.stopped;
}

-- ---- a command, for every fault script

-- how many turns a line asks for
abbrev pub turns_asked : Question → ℕ
turns_asked (Turns n) = n
turns_asked _ = 0

abbrev pub turns_of_line : Option Question → ℕ
turns_of_line None = 0
turns_of_line (Some q) = turns_asked q

-- the answer is a text of which this holds
abbrev pub IsText : Answer → (List ℕ → Type 0) → Type 0
IsText (Text t) Holds = Holds t.items
IsText Unknown Holds = ⊥
IsText Quit Holds = ⊥

-- the answer to a question, after the turns that it asks for
pub record AnswersTo (q : Question) (s : Session) (v : EngineView) (a : Answer) : Type 0 where
  pub quit : q ≡ AskedToQuit → a ≡ Quit
  pub text : q ≢ AskedToQuit → IsText a (λ t. TellsTurns q s.reached.made.turns t
      × ((x : Model) → v.stands x → t ≡ answer x.machine x.fate.cores q))

abbrev pub AnswersLine : Option Question → Session → EngineView → Answer → Type 0
AnswersLine None s v a = a ≡ Unknown
AnswersLine (Some q) s v a = AnswersTo q s v a

-- The turns that a line asks for, or those that are left, were made and counted on, each as the table
-- of turns has it and as far as they are sound as the definitions have it. Then the answer was given.
pub record Commands (q : Option Question) (old new : Session) (before after : EngineView)
    (a : Answer) : Type 0 where
  pub told : List Told
  pub tells : Tells (take (turns_of_line q) (left_of old)) told before after
  pub left : left_of new ≡ drop (turns_of_line q) (left_of old)
  pub counted : new.reached.made ≡ count_turns old.reached.made told
  pub answers : AnswersLine q new after a

-- ---- a session of the definitions

-- this session, seen so, is that one of the definitions
pub record IsSession (s : Session) (v : EngineView) (d : ModelSession) : Type 0 where
  pub stands : v.stands d.model
  pub left : d.left ≡ left_of s
  pub made : d.made ≡ s.reached.made

-- the turns that a line asks for
abbrev pub next_kinds : Option Question → ModelSession → List RunKind
next_kinds q d = take (turns_of_line q) d.left

abbrev pub after_line : List Strike → Config → Option Question → ModelSession → ModelSession
after_line ls c None d = d
after_line ls c (Some q) d = asked ls c d q

-- the answer is that of the definitions, by their session after the turns
abbrev pub IsAnswer : Option Question → ModelSession → Answer → Type 0
IsAnswer None d a = a ≡ Unknown
IsAnswer (Some q) d a =
    (q ≡ AskedToQuit → a ≡ Quit)
    × (q ≢ AskedToQuit → IsText a (λ t. t ≡ answered d q))

-- a line makes of the session what it makes of one of the definitions, and is answered so
pub record SaysAs (ls : List Strike) (c : Config) (q : Option Question) (d : ModelSession)
    (s : Session) (v : EngineView) (a : Answer) : Type 0 where
  pub is : IsSession s v (after_line ls c q d)
  pub answer : IsAnswer q (after_line ls c q d) a
