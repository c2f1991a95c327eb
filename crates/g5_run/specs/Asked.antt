-- The commands that are built. The others are refused like words of no form.
-- Source: choice of this project, for the time until all are built.
use Rattle.std.specs.Prelude.{Bool, true, false, List, Option, Some, None, option_and_then, if◌then◌else◌}
use Rattle.program_model.specs.Commands.{Command, command, run, debug, generate, migrate, assemble, disassemble, link, save, resume, audit}
use Rattle.program_model.specs.Given.{Text}

abbrev pub is_built : Command → Bool
is_built (run names config) = true
is_built (debug names config) = true
is_built (generate number turns) = true
is_built (migrate old new) = true
is_built (assemble source deck) = true
is_built (disassemble deck at count) = true
is_built (link out decks) = true
is_built (save turns names file config) = false
is_built (resume names) = false
is_built (audit log) = true

abbrev pub if_built : Command → Option Command
if_built c = if is_built c then Some c else None

-- what the words ask for
unfoldable pub asked : List Text → Option Command
asked words = option_and_then if_built (command words)
