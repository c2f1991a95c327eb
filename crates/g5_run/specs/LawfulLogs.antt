-- The log of a run that was made to its end is lawful. Source: choice of this project.
use Rattle.std.specs.Prelude.{◌≡◌, List, IsTrue, length}
use Rattle.g5_outside.specs.Views.{ShelfView}
use Rattle.g5_writing.specs.Starts.{text_named}
use Rattle.program_model.specs.Commands.{JobNames}
use Rattle.run_model.specs.Counts.{counts}
use Rattle.run_model.specs.Lawful.{Lawful}
use Rattle.run_model.specs.Pieces.{text}
use Rattle.run_model.specs.Runs.{Told, entries}
use Rattle.run_model.specs.Texts.{whole}
use Rattle.run_model.specs.declared.logs.Config.{Config}
use Rattle.run_model.specs.declared.outputs.Place.TheVariants.{Log}

-- it is the text of a lawful list of entries, with the numbers of its turns and of the cores returned
pub record HasLawfulLog (names : JobNames) (c : Config) (shelf : ShelfView) : Type 0 where
  pub told : List Told
  pub lawful : Lawful c (length told) (counts told).returned (entries told)
  pub log : IsTrue shelf.told → text_named shelf names.log ≡ text Log (whole c told)
