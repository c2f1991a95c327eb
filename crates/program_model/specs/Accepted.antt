-- The inputs of a run: what they give, or the first refusal among them, and what the run tells.
-- Source: choice of this project.
use Rattle.std.specs.Prelude.{ℕ, ◌*◌, ◌≡◌, List, [], Result, Ok, Err, codes, refl}
use Rattle.deck_model.specs.Deck.{cards_of, listing}
use Rattle.deck_model.specs.Image.{Image, image_at, image}
use Rattle.deck_model.specs.declared.decks.DeckRefusal.{DeckRefusal}
use Rattle.deck_model.specs.declared.decks.DeckRefusal.TheVariants.{NoEnd}
use Rattle.esa_model.specs.Machine.{Machine, start}
use Rattle.run_model.specs.Runs.{Told, first_model, run_tells}
use Rattle.run_model.specs.Schedule.{schedule, kinds_of}
use Rattle.run_model.specs.Script.{script}
use Rattle.run_model.specs.declared.faults.ScriptRefusal.{ScriptRefusal}
use Rattle.run_model.specs.declared.faults.Strike.{Strike}
use Rattle.run_model.specs.declared.logs.Config.{Config}
use Rattle.run_model.specs.declared.schedules.Run.{Run}
use Rattle.run_model.specs.declared.schedules.ScheduleRefusal.{ScheduleRefusal}
use Rattle.program_model.specs.declared.status.Status.{Status}
use Rattle.program_model.specs.declared.status.Status.TheVariants.{DeckRefused, ScheduleRefused, ScriptRefused}
use Rattle.program_model.specs.Generator.{generated}

-- the bytes of the inputs
pub record JobBytes : Type 0 where
  pub deck : List ℕ
  pub console : List ℕ
  pub schedule : List ℕ
  pub script : List ℕ

-- what accepted inputs give
pub record Job : Type 0 where
  pub image : Image
  pub console : List ℕ
  pub runs : List Run
  pub strikes : List Strike

-- ---- deck, schedule and script, in this order

abbrev pub with_strikes :
    Image → List ℕ → List Run → Result (List Strike) ScriptRefusal → Result Job Status
with_strikes i console runs (Err r) = Err (ScriptRefused r)
with_strikes i console runs (Ok ls) =
    Ok (record { image = i; console = console; runs = runs; strikes = ls })

abbrev pub with_runs :
    Image → JobBytes → Result (List Run) ScheduleRefusal → Result Job Status
with_runs i bytes (Err r) = Err (ScheduleRefused r)
with_runs i bytes (Ok runs) = with_strikes i bytes.console runs (script bytes.script)

abbrev pub with_image : Config → JobBytes → Result Image DeckRefusal → Result Job Status
with_image c bytes (Err r) = Err (DeckRefused r)
with_image c bytes (Ok i) = with_runs i bytes (schedule c.cpus bytes.schedule)

unfoldable pub job : Config → JobBytes → Result Job Status
job c bytes = with_image c bytes (image (4096 * c.pages) bytes.deck)

-- ---- the run

abbrev pub first_machine : Config → Job → Machine
first_machine c j = start c.cpus j.image.bytes j.image.entry j.console

-- what the turns of the schedule tell
unfoldable pub job_tells : Config → Job → List Told
job_tells c j = run_tells j.strikes c (first_model c (first_machine c j)) (kinds_of j.runs)

-- the inputs that are generated from a number, for so many turns
abbrev pub generated_bytes : ℕ → ℕ → JobBytes
generated_bytes number turns =
    let g = generated number turns in
    record { deck = g.deck; console = []; schedule = g.schedule; script = g.script }

-- ---- worked value: the deck comes first

abbrev bad_inputs : JobBytes
bad_inputs = record { deck = []; console = []; schedule = codes "x"; script = codes "x" }

abbrev one_cpu : Config
one_cpu = record { cpus = 1; spares = 0; pages = 32; threshold = 3 }

pub deck_first : job one_cpu bad_inputs ≡ Err (DeckRefused NoEnd)
unfolding cards_of listing image_at job
deck_first = refl
