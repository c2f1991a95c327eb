-- Runs by what their turns meet, as the laws speak of them. Source: choice of this project.
use Rattle.std.specs.Prelude.{⊤, ◌≡◌, ◌<◌, map, List, [], ◌∷◌, ◌++◌}
use Rattle.esa_model.specs.Machine.{Machine}
use Rattle.run_model.specs.declared.faults.Strike.{Strike}
use Rattle.run_model.specs.declared.logs.Config.{Config}
use Rattle.run_model.specs.declared.logs.Entry.{Entry}
use Rattle.run_model.specs.declared.schedules.RunKind.{RunKind}
use Rattle.run_model.specs.declared.schedules.RunKind.TheVariants.{Turns, Key, Return}
use Rattle.run_model.specs.Cores.{Cores, Choice, Outline, cores_after, first_cores, outlines}
use Rattle.run_model.specs.Fate.{Fate}
use Rattle.run_model.specs.Faultless.{busy}
use Rattle.run_model.specs.Runs.{Told, choices, first_model, outline_of, run_after, run_tells}

-- the cores after these turns from the start
abbrev pub cores_of_run : Config → List Choice → Cores
cores_of_run c xs = cores_after c (first_cores c) xs

-- the turns, in their order
abbrev pub turns_of_run : Config → List Choice → List Outline
turns_of_run c xs = outlines c (first_cores c) xs

-- their log entries
abbrev pub logged : List Outline → List Entry
logged [] = []
logged (o ∷ os) = o.entries ++ logged os

-- turns of CPUs that the machine has
abbrev pub ValidKind : Config → RunKind → Type 0
ValidKind c (Turns i) = i.0 < c.cpus
ValidKind c (Key i) = ⊤
ValidKind c (Return k) = ⊤

abbrev pub ValidTurns : Config → List Choice → Type 0
ValidTurns c [] = ⊤
ValidTurns c (x ∷ xs) = ValidKind c x.kind × ValidTurns c xs

abbrev pub ValidKinds : Config → List RunKind → Type 0
ValidKinds c [] = ⊤
ValidKinds c (k ∷ ks) = ValidKind c k × ValidKinds c ks

-- turns that tell the entries and events that some choices make
abbrev pub Tells : Config → List Choice → List Told → Type 0
Tells c xs ts = map outline_of ts ≡ turns_of_run c xs

-- ---- runs of the definitions, from the start

abbrev pub told_of_run : List Strike → Config → Machine → List RunKind → List Told
told_of_run ls c m ks = run_tells ls c (first_model c m) ks

abbrev pub met_of_run : List Strike → Config → Machine → List RunKind → List Choice
met_of_run ls c m ks = choices ls c (first_model c m) ks

abbrev pub fate_of_run : List Strike → Config → Machine → List RunKind → Fate
fate_of_run ls c m ks = (run_after ls c (first_model c m) ks).fate

-- the same without strikes, and without the turns that make no event
abbrev pub told_without : List Strike → Config → Machine → List RunKind → List Told
told_without ls c m ks = told_of_run [] c m (busy ls c (first_model c m) ks)
