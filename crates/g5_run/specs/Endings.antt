-- How a run ends, before anything is said of it. Source: choice of this project.
use Rattle.g5_outside.specs.Views.{ShelfView, SinkView}
use Rattle.program_model.specs.Commands.{JobNames}
use Rattle.run_model.specs.declared.logs.Config.{Config}
use Rattle.g5_run.specs.Ends.{EndsEarly, EndsWhole}
use Rattle.g5_run.specs.Leaving.{SiliconAfter}
use Rattle.g5_run.specs.declared.job.Ending.{Ending}
use Rattle.g5_run.specs.declared.job.Ending.TheVariants.{Whole, Early}

abbrev pub IsEnding : JobNames → Config → ShelfView → ShelfView → SinkView → SinkView → SiliconAfter → Ending
    → Type 0
IsEnding names c a b o p z (Whole within count) = EndsWhole names c count within a b o p z
IsEnding names c a b o p z (Early status) = EndsEarly names c a b o p status
