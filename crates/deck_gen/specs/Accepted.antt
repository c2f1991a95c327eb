-- What the generated texts say, and that they are accepted. Source: choice of this project.
use Rattle.std.specs.Prelude.{ℕ, ◌≡◌, ◌≤◌, List, length, Ok, IsOkAnd}
use Rattle.deck_model.specs.Image.{Image, image}
use Rattle.run_model.specs.Premise.{Within}
use Rattle.run_model.specs.Schedule.{schedule, turns_of}
use Rattle.run_model.specs.Script.{script}
use Rattle.run_model.specs.declared.schedules.Run.{Run}
use Rattle.program_model.specs.Accepted.{Job, job, generated_bytes}
use Rattle.program_model.specs.Draws.{after}
use Rattle.program_model.specs.GeneratedDeck.{deck_draws}
use Rattle.program_model.specs.Inputs.{limit}
use Rattle.program_model.specs.declared.inputs.Input.TheVariants.{Deck, Schedule, Script}
use Rattle.program_model.specs.Generator.{schedule_runs, generated_strikes, generated_config}

abbrev pub generated_runs : ℕ → ℕ → List Run
generated_runs number turns = schedule_runs turns (after deck_draws number)

-- it is a schedule for 8 CPUs, of so many turns
pub record IsSchedule (number turns : ℕ) (text : List ℕ) : Type 0 where
  pub read : schedule 8 text ≡ Ok (generated_runs number turns)
  pub whole : turns_of (generated_runs number turns) ≡ turns

-- it is a script, within the premise
pub record IsScript (number turns : ℕ) (text : List ℕ) : Type 0 where
  pub read : script text ≡ Ok (generated_strikes number turns)
  pub within : Within (generated_strikes number turns)

-- it is a deck that has its image in a storage of 128 KiB, entered at X'10000'
abbrev pub IsDeck : List ℕ → Type 0
IsDeck text = IsOkAnd (image 131072 text) (λ (i : Image). i.entry ≡ 65536)

-- each text is within the limit of its input
pub record AreInLimits (deck schedule script : List ℕ) : Type 0 where
  pub cards : length deck ≤ limit Deck
  pub words : length schedule ≤ limit Schedule
  pub lines : length script ≤ limit Script

-- what the inputs of a run give
pub record Gives (number turns : ℕ) (j : Job) : Type 0 where
  pub entry : j.image.entry ≡ 65536
  pub runs : j.runs ≡ generated_runs number turns
  pub strikes : j.strikes ≡ generated_strikes number turns

-- all of it is accepted as the input of a run
abbrev pub IsInput : ℕ → ℕ → Type 0
IsInput number turns =
    IsOkAnd (job generated_config (generated_bytes number turns)) (λ j. Gives number turns j)
