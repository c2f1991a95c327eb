-- How large the value of a reading is, and the words of registers.
use Rattle.std.specs.Prelude.{⊤, ℕ, ◌<◌, ◌^◌, ◌≡◌, length}
use Rattle.esa_model.specs.declared.machine.Registers.{Registers}
use Rattle.run_model.specs.Checkpoint.{word_of}
use Rattle.run_model.specs.declared.readings.Read.{Read}
use Rattle.run_model.specs.declared.readings.Read.TheVariants.{Clean, Corrected, Uncorrectable}

abbrev pub IsValueBelow : ℕ → Read → Type 0
IsValueBelow m (Clean v) = v < m
IsValueBelow m (Corrected v p) = v < m
IsValueBelow m Uncorrectable = ⊤

-- registers of a CPU: so many, and each word before those of the clocks one of 32 bits
pub record AreRegisters (r : Registers) : Type 0 where
  pub generals : length r.general ≡ 16
  pub controls : length r.control ≡ 16
  pub clocks : length r.clocks ≡ 4
  pub small : (w : ℕ) → w < 36 → word_of r w < 2 ^ 32
