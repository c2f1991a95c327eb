-- The registers of a core that runs again. Source: choice of this project.
use Rattle.std.specs.Prelude.{⊤}
use Rattle.silicon.specs.Chip.{Chip}
use Rattle.core_states.specs.Read.{registers_read}
use Rattle.core_turns.specs.Held.{RunsWith}
use Rattle.core_turns.specs.declared.held.Held.{Held}
use Rattle.core_turns.specs.declared.held.Held.TheVariants.{Running, Recovering, Lost, Taken}

-- they are what the stored words of the recovering core say
abbrev pub Recovers : Held → Chip → Held → Type 0
Recovers (Running k) z h2 = ⊤
Recovers (Recovering k) z h2 = RunsWith h2 (registers_read z k.core.0)
Recovers (Lost c retries) z h2 = ⊤
Recovers Taken z h2 = ⊤
