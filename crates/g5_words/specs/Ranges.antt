-- What a caller may count on: the ranges of numbers, and files that differ.
-- Source: choice of this project.
use Rattle.std.specs.Prelude.{◌≤◌, ◌<◌, ◌≢◌, ◌^◌, length}
use Rattle.run_model.specs.declared.logs.Config.{Config}
use Rattle.g5_words.specs.declared.commands.Command.{Command}
use Rattle.g5_words.specs.declared.commands.Command.TheVariants.{Run, Debug, Gen, Migrate, Asm, Dis, Link, Save, Resume, Audit}
use Rattle.g5_words.specs.declared.commands.JobNames.{JobNames}

-- the limits of a configuration
pub record IsInLimits (c : Config) : Type 0 where
  pub some : 1 ≤ c.cpus
  pub cpus : c.cpus ≤ 8
  pub spares : c.spares ≤ 8
  pub least : 32 ≤ c.pages
  pub pages : c.pages ≤ 4096
  pub threshold : c.threshold ≤ 15

abbrev pub WritesTwo : JobNames → Type 0
WritesTwo job = job.log.now ≢ job.trace.now

abbrev pub IsSound : Command → Type 0
IsSound (Run job config) = WritesTwo job × IsInLimits config
IsSound (Debug session config) = IsInLimits config
IsSound (Gen number turns) = (1 ≤ turns) × (turns ≤ 1000000)
IsSound (Migrate old new) = old.now ≢ new.now
IsSound (Asm source deck) = source.now ≢ deck.now
IsSound (Dis deck address count) = (address < 2 ^ 24) × (1 ≤ count) × (count ≤ 1000)
IsSound (Link out decks) = 1 ≤ length decks.items
IsSound (Save turns job save config) =
    (turns ≤ 1000000) × WritesTwo job × (job.log.now ≢ save.now) × (job.trace.now ≢ save.now)
    × IsInLimits config
IsSound (Resume names) = names.log.now ≢ names.trace.now
IsSound (Audit log) = Unit {0}
