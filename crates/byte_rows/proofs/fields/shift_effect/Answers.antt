-- No more bytes are stored than the operand has.
use Rattle.std.proofs.Common.{ℕ, arith}
use Rattle.std.proofs.lemmas.List.{length-take}
use Rattle.byte_rows.proofs.Covered.{covered}
use Rattle.byte_rows.proofs.fields.shift_effect.Goals as goal

pub returns-clause-covers : goal.returns-clause-covers
returns-clause-covers g c =
    covered _ _ _ _ _ _ (omega (arith, length-take {A = ℕ}, c.end_with.ensures.short)) c.end_with.ensures.console
