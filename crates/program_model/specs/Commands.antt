-- The commands: their names, their words, and what accepted words give.
-- Source: choice of this project.
--   run DECK CONSOLE SCHEDULE SCRIPT LOG TRACE
--   debug DECK CONSOLE SCHEDULE SCRIPT
--   gen NUMBER TURNS
--   migrate OLD NEW
--   asm SOURCE DECK
--   dis DECK ADDRESS COUNT
--   link OUT DECK ..
--   save N DECK CONSOLE SCHEDULE SCRIPT LOG TRACE SAVE
--   resume SAVE CONSOLE SCHEDULE SCRIPT LOG TRACE
--   audit LOG
-- run, debug and save have the options --cpus, --spares, --storage and --threshold.
-- Numbers are decimals without sign or leading zero.
use Rattle.std.specs.Prelude.{ℕ, ◌==◌, ◌%◌, ◌/◌, Bool, true, false, nat_le, List, [], ◌∷◌, length, Option, Some, None, option_and_then, option_map, if◌then◌else◌, codes}
use Rattle.std.specs.List.{list_any}
use Rattle.std.specs.Str.{bytes_eq}
use Rattle.run_model.specs.Numbers.{number_up_to}
use Rattle.run_model.specs.declared.logs.Config.{Config}
use Rattle.program_model.specs.declared.commands.Kind.{Kind}
use Rattle.program_model.specs.declared.commands.Kind.TheVariants.{Run, Debug, Gen, Migrate, Asm, Dis, Link, Save, Resume, Audit}
use Rattle.program_model.specs.Addresses.{address}
use Rattle.program_model.specs.Given.{Text, Given, given, option_value}

-- ---- what is asked

-- the files of a run
pub record JobNames : Type 0 where
  pub deck : Text
  pub console : Text
  pub schedule : Text
  pub script : Text
  pub log : Text
  pub trace : Text

-- the files of a debugger's session
pub record SessionNames : Type 0 where
  pub deck : Text
  pub console : Text
  pub schedule : Text
  pub script : Text

-- the files of a run that goes on from a save
pub record ResumeNames : Type 0 where
  pub save : Text
  pub console : Text
  pub schedule : Text
  pub script : Text
  pub log : Text
  pub trace : Text

pub data Command : Type 0 where
  run : JobNames → Config → Command
  debug : SessionNames → Config → Command
  generate : ℕ → ℕ → Command  -- number, turns
  migrate : Text → Text → Command  -- old log, new log
  assemble : Text → Text → Command  -- source, deck
  disassemble : Text → ℕ → ℕ → Command  -- deck, address, lines
  link : Text → List Text → Command  -- linked deck, decks
  save : ℕ → JobNames → Text → Config → Command  -- turns, files, save
  resume : ResumeNames → Command
  audit : Text → Command  -- log

-- ---- numbers

-- a decimal from `least` to `most`
abbrev pub from_least : ℕ → Option ℕ → Option ℕ
from_least least None = None
from_least least (Some n) = if nat_le least n then Some n else None

abbrev pub number_in : ℕ → ℕ → Text → Option ℕ
number_in least most text = from_least least (number_up_to most text)

-- ---- the configuration that options give

-- an option's number, or its default
abbrev pub number_or : ℕ → ℕ → ℕ → Option Text → Option ℕ
number_or least most default None = Some default
number_or least most default (Some text) = number_in least most text

-- KiB in steps of 64, as pages of 4 KiB
abbrev pub pages_of : Option ℕ → Option ℕ
pages_of None = None
pages_of (Some k) = if k % 64 == 0 then Some (k / 4) else None

abbrev pub config_if : Option ℕ → Option ℕ → Option ℕ → Option ℕ → Option Config
config_if (Some c) (Some s) (Some p) (Some t) =
    Some (record { cpus = c; spares = s; pages = p; threshold = t })
config_if _ _ _ _ = None

-- `value` gives the text of an option by its name
abbrev pub config_by : (Text → Option Text) → Option Config
config_by value = config_if
    (number_or 1 8 1 (value (codes "cpus")))
    (number_or 0 8 0 (value (codes "spares")))
    (pages_of (number_or 128 16384 128 (value (codes "storage"))))
    (number_or 0 15 3 (value (codes "threshold")))

-- ---- names of files

abbrev pub job_names : Text → Text → Text → Text → Text → Text → JobNames
job_names deck console schedule script log trace = record {
  deck = deck;
  console = console;
  schedule = schedule;
  script = script;
  log = log;
  trace = trace;
}

abbrev pub session_names : Text → Text → Text → Text → SessionNames
session_names deck console schedule script = record {
  deck = deck;
  console = console;
  schedule = schedule;
  script = script;
}

abbrev pub resume_names : Text → Text → Text → Text → Text → Text → ResumeNames
resume_names file console schedule script log trace = record {
  save = file;
  console = console;
  schedule = schedule;
  script = script;
  log = log;
  trace = trace;
}

-- files that are written are different ones
abbrev pub unless_same : {A : Type 0} → Text → Text → Option A → Option A
unless_same a b x = if bytes_eq a b then None else x

-- ---- so many names

abbrev pub of_one : {A : Type 0} → (Text → Option A) → List Text → Option A
of_one f (a ∷ []) = f a
of_one f names = None

abbrev pub of_two : {A : Type 0} → (Text → Text → Option A) → List Text → Option A
of_two f (a ∷ b ∷ []) = f a b
of_two f names = None

abbrev pub of_three : {A : Type 0} → (Text → Text → Text → Option A) → List Text → Option A
of_three f (a ∷ b ∷ c ∷ []) = f a b c
of_three f names = None

abbrev pub of_four : {A : Type 0} → (Text → Text → Text → Text → Option A) → List Text → Option A
of_four f (a ∷ b ∷ c ∷ d ∷ []) = f a b c d
of_four f names = None

abbrev pub of_six : {A : Type 0} →
    (Text → Text → Text → Text → Text → Text → Option A) → List Text → Option A
of_six f (a ∷ b ∷ c ∷ d ∷ e ∷ g ∷ []) = f a b c d e g
of_six f names = None

abbrev pub of_eight : {A : Type 0} →
    (Text → Text → Text → Text → Text → Text → Text → Text → Option A) → List Text → Option A
of_eight f (a ∷ b ∷ c ∷ d ∷ e ∷ g ∷ h ∷ i ∷ []) = f a b c d e g h i
of_eight f names = None

abbrev pub of_some : {A : Type 0} → (Text → List Text → Option A) → List Text → Option A
of_some f [] = None
of_some f (a ∷ more) = f a more

-- ---- each command

abbrev pub generate_if : Option ℕ → Option ℕ → Option Command
generate_if (Some number) (Some turns) = Some (generate number turns)
generate_if _ _ = None

abbrev pub disassemble_if : Text → Option ℕ → Option ℕ → Option Command
disassemble_if deck (Some address) (Some count) = Some (disassemble deck address count)
disassemble_if deck _ _ = None

-- 1 to 16 decks, none of which is the linked one
abbrev pub link_if : Text → List Text → Option Command
link_if out decks =
    if list_any (λ deck. bytes_eq deck out) decks then None
    else (if nat_le 1 (length decks) then
    (if nat_le (length decks) 16 then Some (link out decks) else None) else None)

abbrev pub save_if : Option ℕ → JobNames → Text → Option Config → Option Command
save_if (Some turns) job file (Some config) = Some (save turns job file config)
save_if _ job file _ = None

abbrev pub save_apart : Option ℕ → JobNames → Text → Option Config → Option Command
save_apart turns job file config =
    unless_same job.log job.trace (unless_same job.log file (unless_same job.trace file
    (save_if turns job file config)))

-- what a command makes of its names and its configuration
unfoldable pub form : Kind → List Text → Option Config → Option Command
form Run names config = of_six (λ deck console schedule script log trace.
    unless_same log trace
    (option_map (run (job_names deck console schedule script log trace)) config)) names
form Debug names config = of_four (λ deck console schedule script.
    option_map (debug (session_names deck console schedule script)) config) names
form Gen names config = of_two (λ number turns.
    generate_if (number_in 0 4294967295 number) (number_in 1 1000000 turns)) names
form Migrate names config = of_two (λ old new.
    unless_same old new (Some (migrate old new))) names
form Asm names config = of_two (λ source deck.
    unless_same source deck (Some (assemble source deck))) names
form Dis names config = of_three (λ deck at count.
    disassemble_if deck (address at) (number_in 1 1000 count)) names
form Link names config = of_some (λ out decks.
    link_if out decks) names
form Save names config = of_eight (λ turns deck console schedule script log trace file.
    save_apart (number_in 0 1000000 turns)
    (job_names deck console schedule script log trace) file config) names
form Resume names config = of_six (λ file console schedule script log trace.
    unless_same log trace
    (Some (resume (resume_names file console schedule script log trace)))) names
form Audit names config = of_one (λ log.
    Some (audit log)) names

-- the commands that have options
abbrev pub has_options : Kind → Bool
has_options Run = true
has_options Debug = true
has_options Save = true
has_options _ = false

abbrev pub options_if : Bool → List Text
options_if has =
    if has then codes "cpus" ∷ codes "spares" ∷ codes "storage" ∷ codes "threshold" ∷ [] else []

-- the command of this name
abbrev pub kind_named : Text → Option Kind
kind_named word =
    if bytes_eq word (codes "run") then Some Run
    else (if bytes_eq word (codes "debug") then Some Debug
    else (if bytes_eq word (codes "gen") then Some Gen
    else (if bytes_eq word (codes "migrate") then Some Migrate
    else (if bytes_eq word (codes "asm") then Some Asm
    else (if bytes_eq word (codes "dis") then Some Dis
    else (if bytes_eq word (codes "link") then Some Link
    else (if bytes_eq word (codes "save") then Some Save
    else (if bytes_eq word (codes "resume") then Some Resume
    else (if bytes_eq word (codes "audit") then Some Audit
    else None)))))))))

-- ---- the words

abbrev pub command_of_given : Kind → Given → Option Command
command_of_given kind g = form kind g.names (config_by (λ name. option_value name g.options))

abbrev pub command_after : List Text → Option Kind → Option Command
command_after words None = None
command_after words (Some kind) =
    option_and_then (command_of_given kind) (given (options_if (has_options kind)) words)

-- what the words ask for, the command's name first, or none where they are not of a command's form
abbrev pub command : List Text → Option Command
command [] = None
command (word ∷ words) = command_after words (kind_named word)
