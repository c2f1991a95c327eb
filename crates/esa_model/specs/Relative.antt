-- The relative address.
-- Source: Principles of Operation, chapter on program execution (relative branch addresses): the number of halfwords is
-- signed, and the sum is wrapped as an address.
use Rattle.std.specs.Prelude.{ℕ, ◌+◌, ◌-◌, ◌*◌, ◌^◌, nat_lt, if◌then◌else◌}
use Rattle.esa_model.specs.declared.machine.Registers.{Registers}
use Rattle.esa_model.specs.Psw.{wrapped}

-- twice a number of 16 bits read as signed, modulo 2^31; each mode's wrap divides that
abbrev pub doubled : ℕ → ℕ
doubled h = if nat_lt h (2 ^ 15) then 2 * h else 2 ^ 31 - (2 ^ 17 - 2 * h)

unfoldable pub relative : Registers → ℕ → ℕ → ℕ
relative r at halfwords = wrapped r.psw (at + doubled halfwords)
