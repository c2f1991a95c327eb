-- The commands that are built, as the code has them. Source: choice of this project.
use Rattle.std.specs.Prelude.{◌≤◌, length, map}
use Rattle.g5_words.specs.Asked.{job_names, session_names}
use Rattle.g5_words.specs.Ranges.{IsInLimits, WritesTwo}
use Rattle.program_model.specs.Commands.{Command, assemble, audit, debug, disassemble, generate, link, migrate, run}
use Rattle.g5_run.specs.declared.top.Built.{Built}
use Rattle.g5_run.specs.declared.top.Built.TheVariants.{Run, Debug, Gen, Migrate, Asm, Dis, Link, Audit}

abbrev pub built_as : Built → Command
built_as (Run names config) = run (job_names names) config
built_as (Debug names config) = debug (session_names names) config
built_as (Gen number turns) = generate number turns
built_as (Migrate old new) = migrate old.now new.now
built_as (Asm source deck) = assemble source.now deck.now
built_as (Dis deck at count) = disassemble deck.now at count
built_as (Link out decks) = link out.now (map (λ d. d.now) decks.now)
built_as (Audit log) = audit log.now

-- numbers in their ranges, and files that differ
abbrev pub IsSoundly : Built → Type 0
IsSoundly (Run names config) = WritesTwo names × IsInLimits config
IsSoundly (Debug names config) = IsInLimits config
IsSoundly (Gen number turns) = (1 ≤ turns) × (turns ≤ 1000000)
IsSoundly (Migrate old new) = Unit {0}
IsSoundly (Asm source deck) = Unit {0}
IsSoundly (Dis deck at count) = Unit {0}
IsSoundly (Link out decks) = (1 ≤ length decks.now) × (length decks.now ≤ 16)
IsSoundly (Audit log) = Unit {0}
