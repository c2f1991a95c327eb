-- Whether the files that a command reads were there, as the last search for one answered. Source: choice of
-- this project.
use Rattle.program_model.specs.Commands.{Command, generate}
use Rattle.program_model.specs.declared.status.Status.{Status}
use Rattle.program_model.specs.declared.status.Status.TheVariants.{Usage, NoFile, ReadFault, NoMemory}

-- a generated input is read from no file
abbrev pub ReadsFiles : Command → Type 0
ReadsFiles (generate number turns) = ⊥
ReadsFiles other = Unit {0}

-- the statuses at which each file was searched for and found: at a fault, or without memory, the search may
-- not have come to its end
abbrev pub ComesAfterSearch : Status → Type 0
ComesAfterSearch Usage = ⊥
ComesAfterSearch (NoFile input) = ⊥
ComesAfterSearch ReadFault = ⊥
ComesAfterSearch NoMemory = ⊥
ComesAfterSearch status = Unit {0}

abbrev pub IsOfNoFile : Status → Type 0
IsOfNoFile (NoFile input) = Unit {0}
IsOfNoFile status = ⊥
