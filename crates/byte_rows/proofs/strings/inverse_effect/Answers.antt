-- No more bytes are stored than the operand has.
use Rattle.std.proofs.Common.{arith}
use Rattle.byte_rows.proofs.Covered.{covered}
use Rattle.byte_rows.proofs.strings.inverse_effect.Goals as goal

pub returns-clause-covers : goal.returns-clause-covers
returns-clause-covers g c =
    covered _ _ _ _ _ _ (omega (arith, c.stored.ensures.short, c.inverted_of-out.ensures.len)) c.stored.ensures.console
