-- Events and a run over them. After each event the clock is advanced.
-- Source: choice of this project; what a commit does is the Principles' step.
use Rattle.std.specs.Prelude.{List, [], ◌∷◌}
use Rattle.esa_model.specs.declared.machine.Event.{Event}
use Rattle.esa_model.specs.declared.machine.Event.TheVariants.{Commit, Idle, Stop, Key}
use Rattle.esa_model.specs.Bus.{keyed, check_stopped}
use Rattle.esa_model.specs.Clocks.{advanced_clock}
use Rattle.esa_model.specs.Machine.{Machine, next}

-- what an event makes of the machine but for its clock
abbrev pub made_by : Machine → Event → Machine
made_by m (Commit i) = next m i.0
made_by m (Idle i) = m
made_by m (Stop i) = record m { bus = check_stopped i.0 m.bus }
made_by m (Key i) = record m { bus = keyed i.0 m.bus }

abbrev pub clock_advanced : Machine → Machine
clock_advanced m = record m { clock = advanced_clock m.clock }

abbrev pub step : Machine → Event → Machine
step m e = clock_advanced (made_by m e)

abbrev pub run : Machine → List Event → Machine
run m [] = m
run m (e ∷ es) = run (step m e) es
