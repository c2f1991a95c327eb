-- The bytes that a row stores are those of its definition.
use Rattle.std.proofs.Common.{◌≤◌, length, subst, sym}
use Rattle.esa_model.specs.ControlRows.{Control, stored_len}
use Rattle.control_instr.proofs.Fits.{stored_fits}
use Rattle.control_instr.proofs.control_row.control.Goals as goal

pub returns : goal.returns
returns c =
    let Fit : Control → Type 0 = λ x. length x.stored ≤ stored_len c.args.op c.args.d.now in
    record {
      row = c.carry_out.ensures;
      stored = subst Fit (sym c.carry_out.ensures) (stored_fits _ _ _ _ _ _ _);
    }
