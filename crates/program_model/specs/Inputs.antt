-- The inputs of the program: the greatest number of bytes of each, and their names in its messages.
-- Source: choice of this project.
use Rattle.std.specs.Prelude.{ℕ, List, [], get_or, codes}
use Rattle.program_model.specs.declared.inputs.Input.{Input}
use Rattle.program_model.specs.declared.inputs.Input.TheVariants.{Deck, Console, Schedule, Script, Keys, Log, Program, Part, Saved}
use Rattle.program_model.specs.Given.{Text}
use Rattle.program_model.specs.Commands.{JobNames, SessionNames, ResumeNames, Command, run, debug, generate, migrate, assemble, disassemble, link, save, resume, audit}

-- decks that are linked have so many bytes together
abbrev pub limit : Input → ℕ
limit Deck = 16000000
limit Console = 1048576
limit Schedule = 1048576
limit Script = 1048576
limit Keys = 1048576
limit Log = 64000000
limit Program = 1048576
limit (Part j) = 16000000
limit Saved = 16794584

-- ---- names

abbrev pub job_input : JobNames → Input → Text
job_input names Deck = names.deck
job_input names Console = names.console
job_input names Schedule = names.schedule
job_input names Script = names.script
job_input names other = []

-- the commands of a session come from no file
abbrev pub session_input : SessionNames → Input → Text
session_input names Deck = names.deck
session_input names Console = names.console
session_input names Schedule = names.schedule
session_input names Script = names.script
session_input names Keys = codes "keys"
session_input names other = []

abbrev pub resume_input : ResumeNames → Input → Text
resume_input names Saved = names.save
resume_input names Console = names.console
resume_input names Schedule = names.schedule
resume_input names Script = names.script
resume_input names other = []

abbrev pub part_name : List Text → Input → Text
part_name decks (Part j) = get_or decks j []
part_name decks other = []

-- the name of an input that a command reads
abbrev pub input_name : Command → Input → Text
input_name (run names config) input = job_input names input
input_name (debug names config) input = session_input names input
input_name (generate number turns) input = []
input_name (migrate old new) input = old
input_name (assemble source deck) input = source
input_name (disassemble deck at count) input = deck
input_name (link out decks) input = part_name decks input
input_name (save turns names file config) input = job_input names input
input_name (resume names) input = resume_input names input
input_name (audit log) input = log
