-- What a turn of a CPU does to the silicon, by its mode and by what it meets; in the same cases as
-- the table of turns. Source: choice of this project.
use Rattle.std.specs.Prelude.{◌≡◌, ◌≤◌, ◌+◌, ℕ, Bool, true, false, Option, Some, None, nat_lt}
use Rattle.esa_model.specs.declared.machine.Registers.{Registers}
use Rattle.run_model.specs.declared.faults.Cause.{Cause}
use Rattle.run_model.specs.declared.faults.Mode.{Mode}
use Rattle.run_model.specs.declared.faults.Mode.TheVariants.{Running, Recovering, Lost}
use Rattle.run_model.specs.Cores.{Cores, lowest}
use Rattle.core_states.specs.Words.{Attempts, Changes, Fills, Rewrites, Scrubs, is_due, read_core}
use Rattle.core_states.specs.Read.{registers_read}
use Rattle.esa_model.specs.Line.{Side}
use Rattle.silicon.specs.Chip.{Chip, Stays}
use Rattle.core_turns.specs.Held.{CorePool, HeldBy, SparesAre, RunsWith}
use Rattle.core_turns.specs.Meeting.{WaitsAs}
use Rattle.core_turns.specs.declared.held.Held.{Held}

-- an attempt began, and its registers were written
pub record CommitsWords (c : ℕ) (before after : Registers) (old new : Chip) : Type 0 where
  pub begun : Chip
  pub attempts : Attempts c old begun
  pub changes : Changes c before after begun new

-- an attempt is made: it commits, or fails
abbrev pub AttemptedChip : ℕ → Registers → Registers → Option Cause → Chip → Chip → Type 0
AttemptedChip c before after None old new = CommitsWords c before after old new
AttemptedChip c before after (Some why) old new = Attempts c old new

-- the words are read first: one is lost, or the attempt is made
abbrev pub ScrubbedChip :
    ℕ → Registers → Registers → Option Cause → Option ℕ → Chip → Chip → Type 0
ScrubbedChip c before after why (Some w) old new = Scrubs c (Some w) old new
ScrubbedChip c before after why None old new = AttemptedChip c before after why old new

abbrev pub DueChip : ℕ → Registers → Registers → Option Cause → Bool → Chip → Chip → Type 0
DueChip c before after why true old new =
    ScrubbedChip c before after why (read_core old c).lost old new
DueChip c before after why false old new = AttemptedChip c before after why old new

-- a CPU whose core runs
abbrev pub RunningChip :
    ℕ → Registers → Registers → Option Cause → Bool → Chip → Chip → Type 0
RunningChip c before after why true old new = Stays old new
RunningChip c before after why false old new =
    DueChip c before after why (is_due old c) old new

-- the words of a core go to a spare, where none of them is lost
abbrev pub HandedChip : ℕ → ℕ → Option ℕ → Chip → Chip → Type 0
HandedChip c k None old new = Fills k (registers_read old c) old new
HandedChip c k (Some w) old new = Stays old new

abbrev pub TransferredChip : ℕ → Option ℕ → Chip → Chip → Type 0
TransferredChip c None old new = Stays old new
TransferredChip c (Some k) old new = HandedChip c k (read_core old c).lost old new

-- a CPU whose core is to be recovered: below the threshold its words are read, else they go on
abbrev pub RecoveredChip : ℕ → Option ℕ → Bool → Chip → Chip → Type 0
RecoveredChip c k true old new = Rewrites true c (read_core old c).lost old new
RecoveredChip c k false old new = TransferredChip c k old new

abbrev pub ChipByMode :
    ℕ → Cores → ℕ → Bool → Option Cause → Registers → Registers → Mode → Chip → Chip → Type 0
ChipByMode t s i waits why before after Lost old new = Stays old new
ChipByMode t s i waits why before after Recovering old new =
    RecoveredChip (s.core i) (lowest s.spare 0 16) (nat_lt (s.retries i) t) old new
ChipByMode t s i waits why before after Running old new =
    RunningChip (s.core i) before after why waits old new

-- it is so for every state that stands for what was held and for the pool
abbrev pub TurnChanges :
    ℕ → ℕ → Held → Side → CorePool → Option Cause → Held → Chip → Chip → Type 0
TurnChanges t i h side p why h2 old new = (s : Cores) (w : Bool) (before after : Registers)
    → HeldBy h s i → WaitsAs h i side w → SparesAre p s.spare
    → RunsWith h before → RunsWith h2 after
    → ChipByMode t s i w why before after (s.mode i) old new

-- the script stays, and no core begins more than one attempt
pub record Rises (old new : Chip) : Type 0 where
  pub lines : new.lines ≡ old.lines
  pub begun : (c : ℕ) → new.begun c ≤ old.begun c + 1
