-- The registers that the stored words of a core say. Source: choice of this project.
use Rattle.std.specs.Prelude.{ℕ, List, map}
use Rattle.std.specs.List.{range_with_len}
use Rattle.esa_model.specs.declared.machine.Registers.{Registers}
use Rattle.run_model.specs.Checkpoint.{registers_of}
use Rattle.silicon.specs.Chip.{Chip}
use Rattle.core_states.specs.Words.{values}

-- the 40 words in their order
abbrev pub values_read : Chip → ℕ → List ℕ
values_read z c = map (values z c) (range_with_len 0 40)

abbrev pub registers_read : Chip → ℕ → Registers
registers_read z c = registers_of (values_read z c)
