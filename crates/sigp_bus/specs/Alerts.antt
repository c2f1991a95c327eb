-- One CPU at the check-stop of another or of itself.
use Rattle.std.specs.Prelude.{ℕ, ◌==◌, true, if◌then◌else◌, slice_set}
use Rattle.esa_model.specs.declared.machine.Signals.{Signals}
use Rattle.esa_model.specs.declared.machine.CpuState.TheVariants.{CheckStop}

-- the signals of CPU number k after the check-stop of CPU i
abbrev pub alert : ℕ → ℕ → Signals → Signals
alert i k s = if k == i then record s { state = CheckStop } else record s { malfunction = slice_set s.malfunction i true }
