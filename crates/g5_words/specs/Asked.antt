-- A command as what the definition of words says of it. Source: choice of this project.
use Rattle.std.specs.Prelude.{map}
use Rattle.program_model.specs.Commands as asked
use Rattle.g5_words.specs.declared.commands.Command.{Command}
use Rattle.g5_words.specs.declared.commands.Command.TheVariants.{Run, Debug, Gen, Migrate, Asm, Dis, Link, Save, Resume, Audit}
use Rattle.g5_words.specs.declared.commands.JobNames.{JobNames}
use Rattle.g5_words.specs.declared.commands.ResumeNames.{ResumeNames}
use Rattle.g5_words.specs.declared.commands.SessionNames.{SessionNames}

abbrev pub job_names : JobNames → asked.JobNames
job_names j = record {
  deck = j.deck.now;
  console = j.console.now;
  schedule = j.schedule.now;
  script = j.script.now;
  log = j.log.now;
  trace = j.trace.now;
}

abbrev pub session_names : SessionNames → asked.SessionNames
session_names s = record {
  deck = s.deck.now;
  console = s.console.now;
  schedule = s.schedule.now;
  script = s.script.now;
}

abbrev pub resume_names : ResumeNames → asked.ResumeNames
resume_names r = record {
  save = r.save.now;
  console = r.console.now;
  schedule = r.schedule.now;
  script = r.script.now;
  log = r.log.now;
  trace = r.trace.now;
}

abbrev pub asked_by : Command → asked.Command
asked_by (Run job config) = asked.run (job_names job) config
asked_by (Debug session config) = asked.debug (session_names session) config
asked_by (Gen number turns) = asked.generate number turns
asked_by (Migrate old new) = asked.migrate old.now new.now
asked_by (Asm source deck) = asked.assemble source.now deck.now
asked_by (Dis deck address count) = asked.disassemble deck.now address count
asked_by (Link out decks) = asked.link out.now (map (λ d. d.now) decks.items)
asked_by (Save turns job save config) = asked.save turns (job_names job) save.now config
asked_by (Resume names) = asked.resume (resume_names names)
asked_by (Audit log) = asked.audit log.now
