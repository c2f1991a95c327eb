use Rattle.std.proofs.Common.{◌≡◌, ◌<◌, ℕ, get_or, length}
use Rattle.esa_model.specs.ControlRows.{loaded_register}
use Rattle.control_instr.proofs.control_registers.load_all.Given as goal

abbrev pub invariant-loop-n : goal.invariant-loop-n
invariant-loop-n l = record {
  len : length l.control ≡ 16;
  below : (k : ℕ) → k < l.n → get_or l.control k 0 ≡ loaded_register l.r l.d l.operand k;
}
