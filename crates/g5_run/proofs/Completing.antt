-- A command whose inputs are accepted and of whose calls none fails is carried out to its end, where
-- there is memory.
use Rattle.std.proofs.Common.{◌≡◌, ◌⊎◌, ℕ, List, refl, sym, ◌∙◌, ap, subst, Option, Some, None, Ok, Err, inl, inr}
use Rattle.deck_commands.specs.Disassembles.{RefusesDeck, storage_size}
use Rattle.deck_model.specs.Image.{image}
use Rattle.deck_model.specs.declared.decks.DeckRefusal.{DeckRefusal}
use Rattle.g5_outside.specs.Views.{ShelfView, SinkView}
use Rattle.log_commands.specs.Migrates.{RefusesLog}
use Rattle.program_model.specs.Commands.{Command, assemble, audit, debug, disassemble, generate, link, migrate, resume, run, save}
use Rattle.program_model.specs.Given.{Text}
use Rattle.program_model.specs.declared.inputs.Input.TheVariants.{Deck, Log}
use Rattle.program_model.specs.declared.status.Status.{Status}
use Rattle.program_model.specs.declared.status.Status.TheVariants.{Done, CheckStopped, Usage, NoFile, ReadFault, WriteFault, DeckRefused, ScheduleRefused, ScriptRefused, TooLarge, NoMemory, LogRefused, SourceRefused, LinkRefused, SaveRefused, AuditNo}
use Rattle.run_model.specs.Migrate.{migrated}
use Rattle.run_model.specs.declared.logs.MigrateRefusal.{MigrateRefusal}
use Rattle.g5_run.specs.Complete.{IsAcceptedBy, IsJudged, IsLoadable, IsOldLog, IsToldFile, IsWhole, NoLineFailed, NothingFailed}
use Rattle.g5_run.specs.Converts.{MigrateEnds}
use Rattle.g5_run.specs.Ends.{CommandEnds, Ends}
use Rattle.g5_run.specs.Judges.{AuditEnds}
use Rattle.g5_run.specs.Leaving.{Beside}
use Rattle.g5_run.specs.Shows.{DisEnds}
use Rattle.g5_run.proofs.Accepted.{file_read, one_text}
use Rattle.g5_run.proofs.AsmEnded.{asm_complete}
use Rattle.g5_run.proofs.LinkEnded.{link_complete}
use Rattle.g5_run.proofs.MadeWhole.{OrNoMemory, gen_complete, run_complete, session_complete}

-- ---- a log that is migrated

log_accepted : (old : Text) (a b : ShelfView) (r : MigrateRefusal) → IsOldLog old a
    → RefusesLog old a b r → ⊥
log_accepted old a b r ok h =
    let same = one_text old a ok.log h.log (ok.file.is.is ok.file.told) (h.read.is ok.file.told) in
    let clash : Ok ok.text ≡ Err r = sym ok.migrates ∙ ap migrated same ∙ h.refused in
    absurd cc

migrate_complete : (old new : Text) (a b : ShelfView) (o p e f : SinkView) (status : Status)
    → MigrateEnds old new a b e f status → IsOldLog old a → NothingFailed a b o p
    → OrNoMemory (status ≡ Done) status
migrate_complete old new a b o p e f Done h ok nf = inl refl
migrate_complete old new a b o p e f CheckStopped h ok nf =
    inr (file_read Log old a b ok.log CheckStopped ok.file nf.reads h.0.1)
migrate_complete old new a b o p e f Usage h ok nf =
    inr (file_read Log old a b ok.log Usage ok.file nf.reads h.0.1)
migrate_complete old new a b o p e f (NoFile input) h ok nf =
    inr (file_read Log old a b ok.log (NoFile input) ok.file nf.reads h.0.1)
migrate_complete old new a b o p e f ReadFault h ok nf =
    inr (file_read Log old a b ok.log ReadFault ok.file nf.reads h.0.1)
migrate_complete old new a b o p e f WriteFault h ok nf = absurd (nf.writes h.0.cause)
migrate_complete old new a b o p e f (DeckRefused r) h ok nf =
    inr (file_read Log old a b ok.log (DeckRefused r) ok.file nf.reads h.0.1)
migrate_complete old new a b o p e f (ScheduleRefused r) h ok nf =
    inr (file_read Log old a b ok.log (ScheduleRefused r) ok.file nf.reads h.0.1)
migrate_complete old new a b o p e f (ScriptRefused r) h ok nf =
    inr (file_read Log old a b ok.log (ScriptRefused r) ok.file nf.reads h.0.1)
migrate_complete old new a b o p e f (TooLarge input) h ok nf =
    inr (file_read Log old a b ok.log (TooLarge input) ok.file nf.reads h.0.1)
migrate_complete old new a b o p e f NoMemory h ok nf =
    inr (file_read Log old a b ok.log NoMemory ok.file nf.reads h.0.1)
migrate_complete old new a b o p e f (LogRefused r) h ok nf = absurd (log_accepted old a b r ok h.0)
migrate_complete old new a b o p e f (SourceRefused r) h ok nf =
    inr (file_read Log old a b ok.log (SourceRefused r) ok.file nf.reads h.0.1)
migrate_complete old new a b o p e f (LinkRefused r) h ok nf =
    inr (file_read Log old a b ok.log (LinkRefused r) ok.file nf.reads h.0.1)
migrate_complete old new a b o p e f (SaveRefused r) h ok nf =
    inr (file_read Log old a b ok.log (SaveRefused r) ok.file nf.reads h.0.1)
migrate_complete old new a b o p e f (AuditNo r) h ok nf =
    inr (file_read Log old a b ok.log (AuditNo r) ok.file nf.reads h.0.1)

-- ---- a deck that is shown

deck_loads : (name : Text) (a b : ShelfView) (o p : SinkView) (r : DeckRefusal)
    → IsLoadable name a → RefusesDeck name a b o p r → ⊥
deck_loads name a b o p r ok h =
    let same = one_text name a ok.deck h.deck (ok.file.is.is ok.file.told)
    (h.read.is ok.file.told) in
    let clash : Ok ok.loaded ≡ Err r =
    sym ok.loads ∙ ap (image storage_size) same ∙ h.refused in
    absurd cc

dis_complete : (deck : Text) (at count : ℕ) (a b : ShelfView) (o p e f : SinkView)
    (status : Status) → DisEnds deck at count a b o p e f status → IsLoadable deck a
    → NothingFailed a b o p → OrNoMemory (status ≡ Done) status
dis_complete deck at count a b o p e f Done h ok nf = inl refl
dis_complete deck at count a b o p e f CheckStopped h ok nf =
    inr (file_read Deck deck a b ok.deck CheckStopped ok.file nf.reads h.0.why)
dis_complete deck at count a b o p e f Usage h ok nf =
    inr (file_read Deck deck a b ok.deck Usage ok.file nf.reads h.0.why)
dis_complete deck at count a b o p e f (NoFile input) h ok nf =
    inr (file_read Deck deck a b ok.deck (NoFile input) ok.file nf.reads h.0.why)
dis_complete deck at count a b o p e f ReadFault h ok nf =
    inr (file_read Deck deck a b ok.deck ReadFault ok.file nf.reads h.0.why)
dis_complete deck at count a b o p e f WriteFault h ok nf = absurd (nf.out h.0.cause)
dis_complete deck at count a b o p e f (DeckRefused r) h ok nf =
    absurd (deck_loads deck a b o p r ok h.0)
dis_complete deck at count a b o p e f (ScheduleRefused r) h ok nf =
    inr (file_read Deck deck a b ok.deck (ScheduleRefused r) ok.file nf.reads h.0.why)
dis_complete deck at count a b o p e f (ScriptRefused r) h ok nf =
    inr (file_read Deck deck a b ok.deck (ScriptRefused r) ok.file nf.reads h.0.why)
dis_complete deck at count a b o p e f (TooLarge input) h ok nf =
    inr (file_read Deck deck a b ok.deck (TooLarge input) ok.file nf.reads h.0.why)
dis_complete deck at count a b o p e f NoMemory h ok nf =
    inr (file_read Deck deck a b ok.deck NoMemory ok.file nf.reads h.0.why)
dis_complete deck at count a b o p e f (LogRefused r) h ok nf =
    inr (file_read Deck deck a b ok.deck (LogRefused r) ok.file nf.reads h.0.why)
dis_complete deck at count a b o p e f (SourceRefused r) h ok nf =
    inr (file_read Deck deck a b ok.deck (SourceRefused r) ok.file nf.reads h.0.why)
dis_complete deck at count a b o p e f (LinkRefused r) h ok nf =
    inr (file_read Deck deck a b ok.deck (LinkRefused r) ok.file nf.reads h.0.why)
dis_complete deck at count a b o p e f (SaveRefused r) h ok nf =
    inr (file_read Deck deck a b ok.deck (SaveRefused r) ok.file nf.reads h.0.why)
dis_complete deck at count a b o p e f (AuditNo r) h ok nf =
    inr (file_read Deck deck a b ok.deck (AuditNo r) ok.file nf.reads h.0.why)

-- ---- a log that is judged

audit_complete : (log : Text) (a b : ShelfView) (o p e f : SinkView) (bytes : List ℕ)
    (status : Status) → AuditEnds log a b o p e f status → IsToldFile log Log a bytes
    → NothingFailed a b o p → OrNoMemory (IsJudged status) status
audit_complete log a b o p e f bytes Done h ok nf = inl (inl refl)
audit_complete log a b o p e f bytes CheckStopped h ok nf =
    inr (file_read Log log a b bytes CheckStopped ok nf.reads h.0.why)
audit_complete log a b o p e f bytes Usage h ok nf =
    inr (file_read Log log a b bytes Usage ok nf.reads h.0.why)
audit_complete log a b o p e f bytes (NoFile input) h ok nf =
    inr (file_read Log log a b bytes (NoFile input) ok nf.reads h.0.why)
audit_complete log a b o p e f bytes ReadFault h ok nf =
    inr (file_read Log log a b bytes ReadFault ok nf.reads h.0.why)
audit_complete log a b o p e f bytes WriteFault h ok nf = absurd (nf.out h.0.cause)
audit_complete log a b o p e f bytes (DeckRefused r) h ok nf =
    inr (file_read Log log a b bytes (DeckRefused r) ok nf.reads h.0.why)
audit_complete log a b o p e f bytes (ScheduleRefused r) h ok nf =
    inr (file_read Log log a b bytes (ScheduleRefused r) ok nf.reads h.0.why)
audit_complete log a b o p e f bytes (ScriptRefused r) h ok nf =
    inr (file_read Log log a b bytes (ScriptRefused r) ok nf.reads h.0.why)
audit_complete log a b o p e f bytes (TooLarge input) h ok nf =
    inr (file_read Log log a b bytes (TooLarge input) ok nf.reads h.0.why)
audit_complete log a b o p e f bytes NoMemory h ok nf =
    inr (file_read Log log a b bytes NoMemory ok nf.reads h.0.why)
audit_complete log a b o p e f bytes (LogRefused r) h ok nf =
    inr (file_read Log log a b bytes (LogRefused r) ok nf.reads h.0.why)
audit_complete log a b o p e f bytes (SourceRefused r) h ok nf =
    inr (file_read Log log a b bytes (SourceRefused r) ok nf.reads h.0.why)
audit_complete log a b o p e f bytes (LinkRefused r) h ok nf =
    inr (file_read Log log a b bytes (LinkRefused r) ok nf.reads h.0.why)
audit_complete log a b o p e f bytes (SaveRefused r) h ok nf =
    inr (file_read Log log a b bytes (SaveRefused r) ok nf.reads h.0.why)
audit_complete log a b o p e f bytes (AuditNo r) h ok nf = inl (inr (r, refl))

-- ---- each command, and the program

command_complete : (d : Command) (a b : ShelfView) (o p e f : SinkView) (z : Beside)
    (status : Status) → CommandEnds (Some d) a b o p e f z status → IsAcceptedBy d a z.keys
    → NothingFailed a b o p → NoLineFailed d z.keys z.keys_after
    → OrNoMemory (IsWhole d status) status
command_complete (run names c) a b o p e f z status h ok nf lines =
    run_complete names c ok.0 a b o p e f z.silicon status h.1 ok.1 nf
command_complete (debug names c) a b o p e f z status h ok nf lines =
    session_complete names c ok.0 a b o p e f z status h.1 ok.1 nf lines
command_complete (generate number turns) a b o p e f z status h ok nf lines =
    gen_complete number turns o p e f z.silicon status h.ends nf.out
command_complete (migrate old new) a b o p e f z status h ok nf lines =
    migrate_complete old new a b o p e f status h.ends ok nf
command_complete (assemble source deck) a b o p e f z status h ok nf lines =
    asm_complete source deck a b o p e f status h.ends ok nf
command_complete (disassemble deck at count) a b o p e f z status h ok nf lines =
    dis_complete deck at count a b o p e f status h ok nf
command_complete (link out decks) a b o p e f z status h ok nf lines =
    link_complete out decks a b o p e f status h.ends ok nf
command_complete (save turns names file c) a b o p e f z status h ok nf lines = absurd ok
command_complete (resume names) a b o p e f z status h ok nf lines = absurd ok
command_complete (audit log) a b o p e f z status h ok nf lines =
    audit_complete log a b o p e f ok.0 status h ok.1 nf

of_command : (d : Command) (a b : ShelfView) (o p e f : SinkView) (z : Beside) (status : Status)
    → Ends (Some d) a b o p e f z status
    → (status ≡ NoMemory) ⊎ CommandEnds (Some d) a b o p e f z status
of_command d a b o p e f z Done h = inr h
of_command d a b o p e f z CheckStopped h = inr h
of_command d a b o p e f z Usage h = let clash : Some d ≡ None = h.0 in absurd cc
of_command d a b o p e f z (NoFile input) h = inr h
of_command d a b o p e f z ReadFault h = inr h
of_command d a b o p e f z WriteFault h = inr h
of_command d a b o p e f z (DeckRefused r) h = inr h
of_command d a b o p e f z (ScheduleRefused r) h = inr h
of_command d a b o p e f z (ScriptRefused r) h = inr h
of_command d a b o p e f z (TooLarge input) h = inr h
of_command d a b o p e f z NoMemory h = inl refl
of_command d a b o p e f z (LogRefused r) h = inr h
of_command d a b o p e f z (SourceRefused r) h = inr h
of_command d a b o p e f z (LinkRefused r) h = inr h
of_command d a b o p e f z (SaveRefused r) h = inr h
of_command d a b o p e f z (AuditNo r) h = inr h

pub ends_complete : (asked : Option Command) (d : Command) (a b : ShelfView) (o p e f : SinkView)
    (z : Beside) (status : Status) → Ends asked a b o p e f z status → asked ≡ Some d
    → IsAcceptedBy d a z.keys → NothingFailed a b o p → NoLineFailed d z.keys z.keys_after
    → IsWhole d status ⊎ (status ≡ NoMemory)
ends_complete asked d a b o p e f z status h is ok nf lines =
    elim (of_command d a b o p e f z status (subst (λ q. Ends q a b o p e f z status) is h)) [
      | inl none ↦ inr none
      | inr ends ↦ command_complete d a b o p e f z status ends ok nf lines
    ]
