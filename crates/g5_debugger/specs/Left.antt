-- The turns of a schedule that are left at a place in it. Source: choice of this project.
use Rattle.std.specs.Prelude.{List, drop}
use Rattle.run_model.specs.declared.schedules.Run.{Run}
use Rattle.run_model.specs.declared.schedules.RunKind.{RunKind}
use Rattle.run_model.specs.Schedule.{kinds_of}
use Rattle.g5_debugger.specs.declared.places.Place.{Place}

abbrev pub left : List Run → Place → List RunKind
left runs p = drop p.done (kinds_of (drop p.run runs))
