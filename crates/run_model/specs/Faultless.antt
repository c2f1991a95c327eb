-- The schedule of a run without the turns that recovery took. Source: choice of this project.
use Rattle.std.specs.Prelude.{List, [], ◌∷◌, Bool, true, false, Option, Some, None, if◌then◌else◌}
use Rattle.esa_model.specs.declared.machine.Event.{Event}
use Rattle.run_model.specs.declared.faults.Strike.{Strike}
use Rattle.run_model.specs.declared.logs.Config.{Config}
use Rattle.run_model.specs.declared.schedules.RunKind.{RunKind}
use Rattle.run_model.specs.Runs.{Model, fate_at, turned}

abbrev pub has_event : Option Event → Bool
has_event None = false
has_event (Some e) = true

abbrev pub with_turn : RunKind → Option Event → List RunKind → List RunKind
with_turn k event ks = if has_event event then k ∷ ks else ks

-- the turns that make an event
abbrev pub busy : List Strike → Config → Model → List RunKind → List RunKind
busy ls c x [] = []
busy ls c x (k ∷ ks) = with_turn k (fate_at ls c x k).outline.event (busy ls c (turned ls c x k) ks)
