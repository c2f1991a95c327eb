-- The status that a refusal gives. Want of memory is a status of its own, which no other carries.
-- Source: choice of this project.
use Rattle.deck_model.specs.declared.decks.DeckRefusal.{DeckRefusal}
use Rattle.deck_model.specs.declared.decks.DeckRefusal.TheVariants as deck
use Rattle.run_model.specs.declared.faults.ScriptRefusal.{ScriptRefusal}
use Rattle.run_model.specs.declared.faults.ScriptRefusal.TheVariants as script
use Rattle.run_model.specs.declared.logs.MigrateRefusal.{MigrateRefusal}
use Rattle.run_model.specs.declared.logs.MigrateRefusal.TheVariants as log
use Rattle.run_model.specs.declared.schedules.ScheduleRefusal.{ScheduleRefusal}
use Rattle.run_model.specs.declared.schedules.ScheduleRefusal.TheVariants as schedule
use Rattle.program_model.specs.declared.refusals.AsmRefusal.{AsmRefusal}
use Rattle.program_model.specs.declared.refusals.AsmRefusal.TheVariants as source
use Rattle.program_model.specs.declared.refusals.LinkRefusal.{LinkRefusal}
use Rattle.program_model.specs.declared.refusals.LinkRefusal.TheVariants as link
use Rattle.program_model.specs.declared.refusals.SaveRefusal.{SaveRefusal}
use Rattle.program_model.specs.declared.refusals.SaveRefusal.TheVariants as save
use Rattle.program_model.specs.declared.status.Status.{Status}
use Rattle.program_model.specs.declared.status.Status.TheVariants.{DeckRefused, ScheduleRefused, ScriptRefused, NoMemory, LogRefused, SourceRefused, LinkRefused, SaveRefused}

abbrev pub deck_status : DeckRefusal → Status
deck_status deck.NoMemory = NoMemory
deck_status refusal = DeckRefused refusal

abbrev pub schedule_status : ScheduleRefusal → Status
schedule_status schedule.NoMemory = NoMemory
schedule_status refusal = ScheduleRefused refusal

abbrev pub script_status : ScriptRefusal → Status
script_status script.NoMemory = NoMemory
script_status refusal = ScriptRefused refusal

abbrev pub log_status : MigrateRefusal → Status
log_status log.NoMemory = NoMemory
log_status refusal = LogRefused refusal

abbrev pub source_status : AsmRefusal → Status
source_status source.NoMemory = NoMemory
source_status refusal = SourceRefused refusal

abbrev pub link_status : LinkRefusal → Status
link_status link.NoMemory = NoMemory
link_status refusal = LinkRefused refusal

abbrev pub save_status : SaveRefusal → Status
save_status save.NoMemory = NoMemory
save_status refusal = SaveRefused refusal

-- what linking says of decks that have no image
abbrev pub refusal_by_deck : DeckRefusal → LinkRefusal
refusal_by_deck deck.NoMemory = link.NoMemory
refusal_by_deck refusal = link.Deck refusal
