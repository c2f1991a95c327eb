-- The run of the machine of the Principles of Operation over events in their order. It knows no
-- core, no strike and no recovery. Source: the Principles' step; its order is the events'.
use Rattle.std.specs.Prelude.{List, [], ◌∷◌, Some}
use Rattle.esa_model.specs.declared.machine.Event.{Event}
use Rattle.esa_model.specs.Machine.{Machine}
use Rattle.esa_model.specs.Run.{step}
use Rattle.run_model.specs.Runs.{Told, tells_by}

-- what the events tell
abbrev pub events_tell : Machine → List Event → List Told
events_tell m [] = []
events_tell m (e ∷ es) = tells_by m [] (Some e) ∷ events_tell (step m e) es
