-- What follows from how a command ends that assembles a source.
use Rattle.std.proofs.Common.{◌≡◌, true, refl, sym, ◌∙◌, ap, Ok, Err, inl, inr}
use Rattle.esa_asm.specs.AssembledSource.{assembled}
use Rattle.g5_outside.specs.Views.{ShelfView, SinkView}
use Rattle.program_model.specs.Given.{Text}
use Rattle.program_model.specs.declared.inputs.Input.TheVariants.{Program}
use Rattle.program_model.specs.declared.refusals.AsmRefusal.{AsmRefusal}
use Rattle.program_model.specs.declared.status.Status.{Status}
use Rattle.program_model.specs.declared.status.Status.TheVariants.{Done, CheckStopped, Usage, NoFile, ReadFault, WriteFault, DeckRefused, ScheduleRefused, ScriptRefused, TooLarge, NoMemory, LogRefused, SourceRefused, LinkRefused, SaveRefused, AuditNo}
use Rattle.source_commands.specs.Assembles.{RefusesSource}
use Rattle.g5_run.specs.Complete.{ComesBeforeOutput, IsAssemblable, NothingFailed}
use Rattle.g5_run.specs.Assembling.{AsmEnds}
use Rattle.g5_run.specs.Searching.{ComesAfterSearch}
use Rattle.g5_run.proofs.Accepted.{file_read, one_text}
use Rattle.g5_run.proofs.MadeWhole.{OrNoMemory}

-- ---- before the file is created nothing is touched

pub asm_untouched : (source deck : Text) (a b : ShelfView) (e f : SinkView)
    (status : Status) → AsmEnds source deck a b e f status → ComesBeforeOutput status
    → b.numbers ≡ a.numbers
asm_untouched source deck a b e f Done h k = absurd k
asm_untouched source deck a b e f CheckStopped h k = absurd k
asm_untouched source deck a b e f Usage h k = h.0.0
asm_untouched source deck a b e f (NoFile input) h k = h.0.0
asm_untouched source deck a b e f ReadFault h k = h.0.0
asm_untouched source deck a b e f WriteFault h k = absurd k
asm_untouched source deck a b e f (DeckRefused r) h k = h.0.0
asm_untouched source deck a b e f (ScheduleRefused r) h k = h.0.0
asm_untouched source deck a b e f (ScriptRefused r) h k = h.0.0
asm_untouched source deck a b e f (TooLarge input) h k = h.0.0
asm_untouched source deck a b e f NoMemory h k = h.0.0
asm_untouched source deck a b e f (LogRefused r) h k = h.0.0
asm_untouched source deck a b e f (SourceRefused r) h k = h.0.numbers
asm_untouched source deck a b e f (LinkRefused r) h k = h.0.0
asm_untouched source deck a b e f (SaveRefused r) h k = h.0.0
asm_untouched source deck a b e f (AuditNo r) h k = absurd k

-- ---- at a status that comes after the searches the source was found

pub asm_found : (source deck : Text) (a b : ShelfView) (e f : SinkView)
    (status : Status) → AsmEnds source deck a b e f status → ComesAfterSearch status
    → b.found ≡ true
asm_found source deck a b e f Done h k = h.0.found
asm_found source deck a b e f CheckStopped h k = absurd h.0.1
asm_found source deck a b e f Usage h k = absurd k
asm_found source deck a b e f (NoFile input) h k = absurd k
asm_found source deck a b e f ReadFault h k = absurd k
asm_found source deck a b e f WriteFault h k = h.0.found
asm_found source deck a b e f (DeckRefused r) h k = absurd h.0.1
asm_found source deck a b e f (ScheduleRefused r) h k = absurd h.0.1
asm_found source deck a b e f (ScriptRefused r) h k = absurd h.0.1
asm_found source deck a b e f (TooLarge input) h k = h.0.1.1.found
asm_found source deck a b e f NoMemory h k = absurd k
asm_found source deck a b e f (LogRefused r) h k = absurd h.0.1
asm_found source deck a b e f (SourceRefused r) h k = h.0.found
asm_found source deck a b e f (LinkRefused r) h k = absurd h.0.1
asm_found source deck a b e f (SaveRefused r) h k = absurd h.0.1
asm_found source deck a b e f (AuditNo r) h k = absurd h.0.1

-- ---- a source that has a deck is assembled, or there is no memory

source_assembled : (source : Text) (a b : ShelfView) (r : AsmRefusal) → IsAssemblable source a
    → RefusesSource source a b r → ⊥
source_assembled source a b r ok h =
    let same = one_text source a ok.text h.text (ok.file.is.is ok.file.told)
    (h.read.is ok.file.told) in
    let clash : Ok ok.deck ≡ Err r = sym ok.assembles ∙ ap assembled same ∙ h.refused in
    absurd cc

pub asm_complete : (source deck : Text) (a b : ShelfView) (o p e f : SinkView)
    (status : Status) → AsmEnds source deck a b e f status → IsAssemblable source a
    → NothingFailed a b o p → OrNoMemory (status ≡ Done) status
asm_complete source deck a b o p e f Done h ok nf = inl refl
asm_complete source deck a b o p e f CheckStopped h ok nf =
    inr (file_read Program source a b ok.text CheckStopped ok.file nf.reads h.0.1)
asm_complete source deck a b o p e f Usage h ok nf =
    inr (file_read Program source a b ok.text Usage ok.file nf.reads h.0.1)
asm_complete source deck a b o p e f (NoFile input) h ok nf =
    inr (file_read Program source a b ok.text (NoFile input) ok.file nf.reads h.0.1)
asm_complete source deck a b o p e f ReadFault h ok nf =
    inr (file_read Program source a b ok.text ReadFault ok.file nf.reads h.0.1)
asm_complete source deck a b o p e f WriteFault h ok nf = absurd (nf.writes h.0.cause)
asm_complete source deck a b o p e f (DeckRefused r) h ok nf =
    inr (file_read Program source a b ok.text (DeckRefused r) ok.file nf.reads h.0.1)
asm_complete source deck a b o p e f (ScheduleRefused r) h ok nf =
    inr (file_read Program source a b ok.text (ScheduleRefused r) ok.file nf.reads h.0.1)
asm_complete source deck a b o p e f (ScriptRefused r) h ok nf =
    inr (file_read Program source a b ok.text (ScriptRefused r) ok.file nf.reads h.0.1)
asm_complete source deck a b o p e f (TooLarge input) h ok nf =
    inr (file_read Program source a b ok.text (TooLarge input) ok.file nf.reads h.0.1)
asm_complete source deck a b o p e f NoMemory h ok nf = inr refl
asm_complete source deck a b o p e f (LogRefused r) h ok nf =
    inr (file_read Program source a b ok.text (LogRefused r) ok.file nf.reads h.0.1)
asm_complete source deck a b o p e f (SourceRefused r) h ok nf =
    absurd (source_assembled source a b r ok h.0)
asm_complete source deck a b o p e f (LinkRefused r) h ok nf =
    inr (file_read Program source a b ok.text (LinkRefused r) ok.file nf.reads h.0.1)
asm_complete source deck a b o p e f (SaveRefused r) h ok nf =
    inr (file_read Program source a b ok.text (SaveRefused r) ok.file nf.reads h.0.1)
asm_complete source deck a b o p e f (AuditNo r) h ok nf =
    inr (file_read Program source a b ok.text (AuditNo r) ok.file nf.reads h.0.1)
