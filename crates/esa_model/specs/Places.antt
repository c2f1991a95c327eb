-- Where the interruptions of each kind have their PSWs and their identification, in real storage.
-- Source: Principles of Operation, chapter on storage (assigned storage locations).
use Rattle.std.specs.Prelude.{ℕ}
use Rattle.esa_model.specs.declared.events.Interruption.{Interruption}
use Rattle.esa_model.specs.declared.events.Interruption.TheVariants.{Program, SupervisorCall, External, Restart}

-- the old PSW: eight bytes
abbrev pub old_at : Interruption → ℕ
old_at Program = 40
old_at SupervisorCall = 32
old_at External = 24
old_at Restart = 8

-- the new PSW: eight bytes
abbrev pub new_at : Interruption → ℕ
new_at Program = 104
new_at SupervisorCall = 96
new_at External = 88
new_at Restart = 0

-- the identification: four bytes; a restart has none, and the number given for it is 0
abbrev pub identification_at : Interruption → ℕ
identification_at Program = 140
identification_at SupervisorCall = 136
identification_at External = 132
identification_at Restart = 0
