use Rattle.std.specs.Prelude.{◌≡◌, ◌≤◌, ◌*◌}
use Rattle.arrayvec.specs.ArrayVec.{array_vec_len}
use Rattle.g5_machine.specs.Standing.{StandsFor}
use Rattle.run_model.specs.Runs.{Model}
use Rattle.silicon.specs.Chip.{Chip}
use Rattle.g5_debugger.proofs.StorageTexts.{AreRead}
use Rattle.g5_debugger.proofs.answers.memory_text.Given as goal

abbrev pub invariant-bytes : goal.invariant-bytes
invariant-bytes l =
    ((z : Chip) → (x : Model) → StandsFor l.machine z x
    → AreRead x.machine.storage l.fn.at l.i l.out.items)
    × (array_vec_len l.out ≡ 2 * l.i)
    × (l.i ≤ l.fn.count)
