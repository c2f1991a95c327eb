-- What the cores store before and after a turn, beside its fate.
-- Source: choice of this project.
use Rattle.std.specs.Prelude.{ℕ, ◌≡◌, ◌≢◌}
use Rattle.esa_model.specs.declared.machine.Registers.{Registers}
use Rattle.run_model.specs.Fate.{Bits, Fate}
use Rattle.run_model.specs.Script.{InForm}
use Rattle.silicon.specs.Chip.{Chip}
use Rattle.checkpoint_laws.specs.Stored.{StoredAs, FewWrong, KeepsOthers}

-- before a turn of a CPU on core c, which stores registers r
pub record BeforeTurn (z : Chip) (s : Fate) (c : ℕ) (r : Registers) : Type 0 where
  pub form : InForm z.lines
  pub begun : z.begun c ≡ s.begun c
  pub stored : StoredAs z c r (s.wrong c)
  pub few : FewWrong (s.wrong c)

-- after it core c stores registers r, with the wrong positions of the fate; of every other core the
-- words are as they were, and in the fate its wrong positions; and each core whose attempts begun
-- were those of the fate has those of the fate after it
pub record AfterTurn (z z2 : Chip) (s : Fate) (b : Bits) (c : ℕ) (r : Registers) : Type 0 where
  pub lines : z2.lines ≡ z.lines
  pub begun : (k : ℕ) → z.begun k ≡ s.begun k → z2.begun k ≡ b.begun k
  pub stored : StoredAs z2 c r (b.wrong c)
  pub words : KeepsOthers c z z2
  pub wrong : (k : ℕ) → k ≢ c → b.wrong k ≡ s.wrong k
